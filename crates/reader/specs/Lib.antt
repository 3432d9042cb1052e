pub mod Functions
pub mod Row
pub mod Candidate
pub mod Found
