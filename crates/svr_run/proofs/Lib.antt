pub mod Written
pub mod Pieces
pub mod Fits
pub mod Sampling
pub mod Walking
pub mod Executed
pub mod Naming
pub mod Renewed
