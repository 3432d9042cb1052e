pub mod Answers
pub mod Compares
pub mod Passes
