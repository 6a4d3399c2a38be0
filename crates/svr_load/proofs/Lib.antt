pub mod Joined
pub mod Short
