pub mod Anywhere
pub mod Deep
pub mod Pops
pub mod Takes
pub mod Local
pub mod Shorter
