pub mod Groups
pub mod Cores
pub mod End
pub mod Walked
