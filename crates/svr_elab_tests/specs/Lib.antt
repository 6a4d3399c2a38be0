pub mod Expressions
pub mod Scopes
pub mod Trees
