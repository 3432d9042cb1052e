pub mod Rows
pub mod Codes
pub mod Targets
pub mod Answers
pub mod Arms
pub mod Steps
pub mod Runs
