mod Ways
mod Found
mod Quiet
mod Inside
mod Classes
mod Typing
mod Fit
mod Computed
mod Changes
mod Callable
mod Order
mod Kept
mod Effects
mod Sampled
pub mod Reached
