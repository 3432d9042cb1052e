pub mod Outside
pub mod Checking
