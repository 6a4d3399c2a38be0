pub mod Costs
pub mod Weighing
pub mod Tallied
pub mod Examples
