pub mod Scope
pub mod Number
pub mod Spot
pub mod Layout
