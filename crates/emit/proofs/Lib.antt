pub mod RowLines
pub mod Leaves
pub mod Calls
pub mod Emits
