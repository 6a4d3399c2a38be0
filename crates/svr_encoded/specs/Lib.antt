pub mod Slots
pub mod Encodes
pub mod Fits
pub mod Fixed
