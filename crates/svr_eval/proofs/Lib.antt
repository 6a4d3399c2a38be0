pub mod Bits
pub mod Below
pub mod Drops
pub mod Constant
pub mod Operands
pub mod Loops
pub mod Turns
