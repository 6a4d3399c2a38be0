pub mod Tokens
pub mod Numbers
pub mod Steps
mod Machine
mod Files
pub mod Numerals
pub mod Taking
mod Unique
pub mod Exact
