pub mod Parts
pub mod StmtRules
