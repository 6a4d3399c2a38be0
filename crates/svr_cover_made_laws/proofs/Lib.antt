pub mod Empty
pub mod Uncapped
pub mod Ranked
pub mod Exact
pub mod Walked
pub mod Apart
pub mod Planned
