pub mod Table
pub mod Inverse
pub mod SBoxTable
pub mod Lists
pub mod Expansion
pub mod Schedule
pub mod Examples
