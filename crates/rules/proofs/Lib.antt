-- ---- small facts
pub mod Logic
pub mod Search
pub mod SweepSums
-- ---- the table: its parts, values, lines and functions
pub mod Scan
pub mod Value
pub mod Accepted
pub mod Close
pub mod Harden
pub mod Function
pub mod Place
pub mod Parts
pub mod Guard
pub mod Between
pub mod Across
pub mod ValueBound
pub mod Words
-- ---- the forms in general
pub mod Form
-- ---- the counter form
pub mod Counter
-- ---- bounds, bytes and reading back
pub mod RegionBound
pub mod FunctionLine
pub mod FieldBound
pub mod LineBound
pub mod Bounds
pub mod Encode
pub mod ReadRow
pub mod ReadBack
pub mod Reading
-- ---- switches
pub mod Switch
-- ---- the theorem and what the calls promise
pub mod Calls
pub mod TablePromise
pub mod Demand3
pub mod Promise
pub mod Sweep
pub mod SweepCall
-- ---- how much a table takes
pub mod Figures
-- ---- by computation
pub mod Instance
pub mod Compute
pub mod Cases
pub mod Report
pub mod Worked
pub mod Refusals
pub mod Arithmetic
pub mod OverflowCases
pub mod SlipCases
pub mod Checks
pub mod LineFigures
