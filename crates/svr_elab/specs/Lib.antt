pub mod Gathered
pub mod Promise
pub mod Script
pub mod Seen
