pub mod Counted
pub mod Drawn
pub mod Joined
pub mod Shown
pub mod Told
