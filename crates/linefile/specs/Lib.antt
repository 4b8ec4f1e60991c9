pub mod File
pub mod Syncs
pub mod Inner
pub mod Run
pub mod Writer
pub mod Paces
