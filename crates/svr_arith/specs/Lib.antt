pub mod Order
pub mod Division
