pub mod Caps
pub mod Operands
pub mod Counted
pub mod Turns
pub mod Weights
pub mod Loops
pub mod Weighed
pub mod Domains
