pub mod Shown
pub mod Loops
pub mod Forms
