pub mod Settling
pub mod Walking
pub mod Sweeping
pub mod Trial
pub mod Answers
pub mod Giving
pub mod Cases
