pub mod Questions
pub mod Values
pub mod Denials
pub mod Phase
pub mod Ends
