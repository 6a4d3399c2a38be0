pub mod Fitting
pub mod Listed
mod Fronts
mod Chains
pub mod Kept
