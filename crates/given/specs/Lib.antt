pub mod Sort
pub mod Things
pub mod Plan
pub mod Through
pub mod Reached
