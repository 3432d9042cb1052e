pub mod Machine
pub mod Open
