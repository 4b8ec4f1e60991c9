pub mod Rule
pub mod Mode
pub mod Blocks
pub mod Words
pub mod Scan
pub mod Ends
