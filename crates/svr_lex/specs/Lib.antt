pub mod Lexing
pub mod TextFronts
