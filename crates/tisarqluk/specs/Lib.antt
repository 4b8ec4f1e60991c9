pub mod FreeRecord
pub mod PacedRecord
pub mod FreeCalls
pub mod PacedCalls
pub mod Inner
