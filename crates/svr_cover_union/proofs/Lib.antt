pub mod Steady
pub mod Unions
pub mod Made
