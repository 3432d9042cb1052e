pub mod Begins
pub mod Comparing
pub mod Landing
