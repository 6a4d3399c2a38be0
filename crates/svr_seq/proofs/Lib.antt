pub mod Joined
pub mod Taken
pub mod Placed
pub mod Lawful
pub mod Pushed
pub mod Steps
pub mod Lookup
