pub mod Outcome
pub mod Complete
