pub mod Said
pub mod Commands
pub mod Completeness
