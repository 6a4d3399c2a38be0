pub mod Waiting
pub mod Puts
