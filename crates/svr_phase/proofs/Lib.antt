pub mod Fitting
pub mod Refutes
pub mod Fresh
pub mod Preferred
pub mod Allowed
pub mod ChosenValues
pub mod KeptItems
pub mod Chosen
