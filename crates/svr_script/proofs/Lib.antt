pub mod Runs
pub mod Conflicts
pub mod Endings
