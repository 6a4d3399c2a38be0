pub mod Freed
pub mod Narrow
pub mod Sounding
pub mod Steps
pub mod Chosen
