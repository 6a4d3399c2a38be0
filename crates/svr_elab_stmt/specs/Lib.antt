pub mod Stmts
pub mod Seen
pub mod Fits
