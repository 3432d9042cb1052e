pub mod Number
pub mod Word
pub mod Malformed
pub mod Page
pub mod Input
pub mod Cases
pub mod Sheet
