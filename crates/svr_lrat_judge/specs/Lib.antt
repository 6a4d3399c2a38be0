pub mod Verdict
pub mod States
pub mod Left
pub mod Marks
pub mod Examples
