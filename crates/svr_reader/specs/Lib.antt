pub mod Outcomes
pub mod Steps
pub mod Program
pub mod Answers
pub mod Spelled
pub mod Lists
pub mod Calls
pub mod Fronts
