pub mod Asked
pub mod Answers
pub mod Placed
pub mod Kept
