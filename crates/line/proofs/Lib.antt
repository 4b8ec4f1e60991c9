pub mod Records
pub mod WindowBits
pub mod Scanning
pub mod Sums
pub mod Stretching
pub mod Steady
pub mod Running
pub mod Passing
