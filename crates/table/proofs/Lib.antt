pub mod Functions
pub mod Whole
pub mod Accepting
