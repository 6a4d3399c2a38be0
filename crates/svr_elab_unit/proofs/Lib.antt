pub mod Added
pub mod Fitting
pub mod Forms
pub mod Homes
pub mod Joined
pub mod Runs
pub mod Shown
