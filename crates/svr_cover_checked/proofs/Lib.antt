pub mod Named
pub mod Walks
pub mod Inside
