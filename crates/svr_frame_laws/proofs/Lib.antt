pub mod Truth
pub mod Answers
pub mod Mentions
pub mod Unmentioned
pub mod Standing
pub mod Expressions
pub mod Readable
pub mod Passes
