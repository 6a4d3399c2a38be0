pub mod Fitting
pub mod Heights
pub mod NoFactor
pub mod Selects
