-- The forms in general: what a form owes, two sets of laws about one kind of line each (Settles, Strict), and demand 3 of every form that
-- meets both (Demand).
pub mod Settles
pub mod Relation
pub mod StepTest
pub mod StepLeave
pub mod StepOut
pub mod StepCall
pub mod Simulate
pub mod Unstruck
pub mod Finish
pub mod Where
pub mod Strict
pub mod Struck
pub mod Landing
pub mod Trace
pub mod Alarm
pub mod Jump
pub mod Progress
pub mod TakenUp
pub mod Slip
pub mod Demand
pub mod Promise
pub mod Sweep
pub mod Walk
pub mod Other
