pub mod Freeing
pub mod Callable
pub mod Choosing
