pub mod Numbering
pub mod LineRows
pub mod Passes
pub mod Compares
pub mod Finds
