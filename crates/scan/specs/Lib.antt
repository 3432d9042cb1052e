pub mod Standing
pub mod Next
