pub mod Turns
pub mod Within
pub mod OneByOne
pub mod Inside
