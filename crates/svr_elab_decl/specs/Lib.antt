pub mod Properties
pub mod Fits
pub mod Seen
