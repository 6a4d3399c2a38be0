pub mod Along
pub mod Examples
pub mod Flat
pub mod Known
pub mod Lineage
pub mod Named
