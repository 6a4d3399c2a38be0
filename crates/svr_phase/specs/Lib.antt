pub mod Cyclic
pub mod Sizes
pub mod Spent
pub mod Proof
pub mod Ends
pub mod Chosen
pub mod Assumed
pub mod Examples
