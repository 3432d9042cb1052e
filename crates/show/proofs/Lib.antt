pub mod Calls
pub mod Fields
pub mod Lines
pub mod Rows
pub mod Strikes
pub mod Told
