pub mod Bitwise
pub mod Literals
pub mod Kinds
pub mod Places
