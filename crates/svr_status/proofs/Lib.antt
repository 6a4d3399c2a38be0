pub mod Lists
pub mod Statuses
pub mod Told
pub mod Written
