pub mod Putting
pub mod Rows
