pub mod Tells
pub mod Placed
