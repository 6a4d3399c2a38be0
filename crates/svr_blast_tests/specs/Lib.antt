pub mod Sample
pub mod Forms
