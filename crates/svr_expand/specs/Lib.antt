pub mod Expanded
pub mod Operands
pub mod Domains
pub mod Cut
pub mod Targeted
pub mod Loops
pub mod Examples
