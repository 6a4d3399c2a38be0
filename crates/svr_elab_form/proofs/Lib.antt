pub mod Shown
pub mod Slices
