pub mod Hex
pub mod Reading
pub mod Listing
pub mod Cases
