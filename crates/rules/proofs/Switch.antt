-- Switches: the chain that they stand for, and what a table as given gets by it.
pub mod Chain
pub mod Bound
pub mod Parts
pub mod Plain
pub mod Rows
pub mod Reading
