pub mod Points
pub mod Laws
pub mod Machine
