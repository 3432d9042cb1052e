pub mod Links
pub mod Cases
