pub mod Unique
pub mod Refusals
pub mod FreeLine
pub mod Points
pub mod PacedLine
pub mod PacedRefusals
pub mod Hosts
pub mod AnyCalls
