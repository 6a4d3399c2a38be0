pub mod Holding
pub mod Marked
pub mod Lists
pub mod FirstNumbers
