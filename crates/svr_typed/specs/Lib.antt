pub mod ClassTerm
pub mod ExprTerm
pub mod ItemTerm
pub mod StmtTerm
