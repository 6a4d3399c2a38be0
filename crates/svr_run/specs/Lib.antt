pub mod Telling
pub mod Events
pub mod Fitting
pub mod Watching
pub mod Reached
pub mod Repeating
pub mod Ends
pub mod CanRun
