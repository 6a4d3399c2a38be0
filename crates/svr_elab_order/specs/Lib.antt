pub mod Order
pub mod Graph
pub mod Cycles
pub mod Ranks
pub mod Examples
