pub mod Texts
pub mod Comes
