pub mod Inherited
pub mod Mentions
pub mod Named
pub mod Objects
pub mod Renamed
pub mod Computed
pub mod Stands
