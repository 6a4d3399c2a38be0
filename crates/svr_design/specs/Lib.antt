pub mod Types
pub mod Mentions
pub mod Constraints
pub mod Statements
pub mod Lawful
pub mod Examples
pub mod Forms
