pub mod Limits
pub mod Parts
pub mod Rows
pub mod Steps
