pub mod Trails
pub mod TableLemmas
pub mod Grown
pub mod Quiet
pub mod Reasons
