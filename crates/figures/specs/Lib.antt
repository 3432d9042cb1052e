pub mod Counted
pub mod Tallied
