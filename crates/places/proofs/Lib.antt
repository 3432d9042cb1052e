pub mod Beside
pub mod Counting
pub mod Landing
pub mod Ranges
