pub mod ItemRules
pub mod Parts
