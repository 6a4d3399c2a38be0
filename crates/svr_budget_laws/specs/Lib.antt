pub mod Budget
pub mod Questions
pub mod Bounds
