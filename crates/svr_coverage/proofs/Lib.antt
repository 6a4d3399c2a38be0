pub mod Sizes
pub mod Named
pub mod Told
