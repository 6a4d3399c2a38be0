pub mod Closes
pub mod Ready
pub mod Domains
