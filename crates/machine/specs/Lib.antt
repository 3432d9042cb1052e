pub mod Ready
pub mod Step
pub mod Run
pub mod Stands
pub mod Map
pub mod ReadyOnce
pub mod Runnable
