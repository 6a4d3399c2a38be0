pub mod Written
pub mod Covered
pub mod Texts
