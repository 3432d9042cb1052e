pub mod First
pub mod Dos
pub mod Row
