pub mod First
pub mod Adds
pub mod Tallies
pub mod Counting
pub mod Cases
