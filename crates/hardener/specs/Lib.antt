pub mod Answer
pub mod Pass
