pub mod Script
pub mod Front
pub mod Classes
pub mod Counters
