pub mod Counters
pub mod Guard
pub mod Fields
pub mod Call
