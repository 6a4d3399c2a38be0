pub mod Counters
pub mod Points
pub mod Tuples
pub mod Sampling
pub mod Cover
