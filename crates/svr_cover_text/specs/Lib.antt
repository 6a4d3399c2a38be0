pub mod Words
pub mod Tree
pub mod Spelled
pub mod Fronts
pub mod Tokens
pub mod Machine
