pub mod Splitting
pub mod Heads
pub mod Fronts
pub mod Numbers
pub mod Fixed
pub mod Exact
pub mod Cuts
