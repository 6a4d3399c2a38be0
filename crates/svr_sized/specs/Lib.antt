pub mod Questions
pub mod Bounds
pub mod Ends
