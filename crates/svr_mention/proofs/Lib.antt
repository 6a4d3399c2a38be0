pub mod Appended
pub mod Indexes
pub mod Turns
