pub mod Jumps
pub mod Singly
pub mod Whole
