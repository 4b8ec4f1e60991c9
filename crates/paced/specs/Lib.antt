pub mod View
pub mod Tests
pub mod Answers
pub mod Opening
pub mod Ticking
pub mod Closing
pub mod Inner
