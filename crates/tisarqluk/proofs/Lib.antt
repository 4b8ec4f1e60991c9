pub mod Parts
pub mod Places
pub mod Lines
pub mod Paces
pub mod RoundTrips
