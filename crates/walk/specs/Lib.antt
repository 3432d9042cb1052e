pub mod Answer
pub mod Limit
pub mod Standing
pub mod Walked
