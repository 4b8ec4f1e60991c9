pub mod View
pub mod Window
pub mod Tests
pub mod Good
pub mod Inner
pub mod Free
