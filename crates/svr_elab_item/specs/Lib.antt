pub mod Items
pub mod Seen
pub mod Fits
pub mod Examples
