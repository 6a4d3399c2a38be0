pub mod Connectives
pub mod ExprRules
pub mod Parts
