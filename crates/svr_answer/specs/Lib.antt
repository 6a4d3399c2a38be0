pub mod Lines
pub mod Ends
pub mod Answers
pub mod Parts
