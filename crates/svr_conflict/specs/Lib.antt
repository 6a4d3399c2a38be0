pub mod Cut
pub mod Conflicts
pub mod Ends
pub mod Read
