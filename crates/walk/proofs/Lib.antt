pub mod Limits
pub mod Once
pub mod Linking
pub mod Verdicts
pub mod Stepping
pub mod Constructs
pub mod Nested
pub mod Sequence
