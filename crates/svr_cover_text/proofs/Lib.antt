pub mod Runs
mod Rests
pub mod Exact
pub mod Way
