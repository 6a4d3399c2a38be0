pub mod Call
pub mod Items
