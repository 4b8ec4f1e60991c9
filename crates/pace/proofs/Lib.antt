pub mod Moves
pub mod Room
pub mod Kept
pub mod Ticks
pub mod Points
pub mod More
