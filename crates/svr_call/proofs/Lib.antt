pub mod Changes
pub mod Answered
