pub mod Numbers
pub mod Gates
pub mod Keys
pub mod Covers
pub mod Folding
pub mod Circuit
pub mod Answers
