pub mod Parts
pub mod Counted
