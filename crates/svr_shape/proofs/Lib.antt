pub mod ChoiceLemmas
pub mod ReductionLemmas
pub mod ExtensionLemmas
pub mod ShiftLemmas
