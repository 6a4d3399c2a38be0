pub mod Entries
pub mod ReadDecls
pub mod ReadItems
pub mod ReadScript
pub mod ReadStmts
