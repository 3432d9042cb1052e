pub mod Begun
pub mod Ends
pub mod Dos
