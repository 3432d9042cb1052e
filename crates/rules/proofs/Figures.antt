-- How much a table takes: what is counted in its hardened table is what the sums over its rows come to, and the steps of its hardened run.
pub mod Sums
pub mod Ended
-- ---- lines
pub mod Lines
-- ---- regions
pub mod Guarded
pub mod FunctionRegions
pub mod Regions
-- ---- values
pub mod ValueSum
pub mod ValueTop
pub mod Values
-- ---- the promise of measure
pub mod Agree
pub mod Promise
-- ---- the promise of hardened_steps
pub mod Traced
pub mod Steps
