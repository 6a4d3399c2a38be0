pub mod Listing
pub mod OfPhase
