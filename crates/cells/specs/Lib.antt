pub mod Worst
pub mod Struck
