pub mod FirstSteps
pub mod Local
