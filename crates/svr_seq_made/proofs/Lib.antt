pub mod Walks
pub mod Named
pub mod Acts
pub mod Within
pub mod Lawful
pub mod Wholes
pub mod Told
pub mod Only
