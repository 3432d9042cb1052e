pub mod Goes
pub mod Step
pub mod Run
