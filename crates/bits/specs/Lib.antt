pub mod Bits
pub mod Blank
