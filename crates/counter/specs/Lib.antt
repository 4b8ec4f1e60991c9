pub mod Counter
pub mod Points
