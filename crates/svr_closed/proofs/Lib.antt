pub mod Copies
pub mod Forms
