pub mod Digits
pub mod Holding
pub mod Feeding
pub mod ByLines
pub mod Putting
pub mod Groups
pub mod RoundTrip
pub mod Whole
