pub mod Ways
pub mod Seen
pub mod Sources
pub mod Loops
pub mod Firsts
pub mod Ranked
pub mod Bounds
pub mod Empties
