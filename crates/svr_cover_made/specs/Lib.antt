pub mod Named
pub mod Stored
pub mod Within
pub mod Plan
pub mod Made
