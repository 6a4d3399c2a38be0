pub mod Excluded
pub mod Joined
