pub mod Calls
pub mod Due
pub mod Listed
