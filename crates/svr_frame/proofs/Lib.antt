pub mod Found
pub mod Closing
pub mod Blind
pub mod Mapped
