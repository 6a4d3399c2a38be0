pub mod NoChoice
pub mod NoValues
