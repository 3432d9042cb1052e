pub mod Compared
pub mod Narrow
