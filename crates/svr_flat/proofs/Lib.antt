pub mod Flattened
pub mod Blocks
pub mod Listed
pub mod Stacked
