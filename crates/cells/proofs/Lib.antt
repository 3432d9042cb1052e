pub mod Placing
pub mod Marking
