pub mod Blocks
pub mod Chain
pub mod Seen
pub mod Fits
pub mod Gathered
pub mod Examples
