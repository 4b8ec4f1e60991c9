pub mod Tick
pub mod Ticks
