pub mod Targets
pub mod Blocks
pub mod Named
pub mod Seen
pub mod Fits
pub mod Kept
pub mod Examples
