pub mod Inputs
pub mod Elements
pub mod Served
