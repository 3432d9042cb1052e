pub mod Puts
pub mod Decode
