pub mod Constants
pub mod Typed
pub mod Looked
pub mod Valued
