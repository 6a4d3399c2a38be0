pub mod Words
pub mod File
pub mod Faults
pub mod Reading
pub mod Examples
