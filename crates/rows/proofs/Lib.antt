pub mod Fields
pub mod FirstRow
pub mod Rows
pub mod DoRows
pub mod Stores
pub mod Six
