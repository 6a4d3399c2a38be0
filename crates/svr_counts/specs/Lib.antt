pub mod Hard
pub mod Counting
