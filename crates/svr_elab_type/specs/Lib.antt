pub mod Types
pub mod Fits
pub mod Seen
pub mod Examples
