pub mod Listed
pub mod Vars
pub mod Run
pub mod Seen
pub mod Fits
pub mod Gathered
pub mod Examples
