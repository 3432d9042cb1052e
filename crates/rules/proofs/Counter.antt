-- The counter form: the counters of a place, where each value stands, and that both sets of laws hold of it (Settles, Strict).
pub mod Counters
pub mod Unique
pub mod Wide
pub mod Settles
pub mod Strict
