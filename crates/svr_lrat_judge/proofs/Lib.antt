pub mod Lefts
pub mod MarkLemmas
pub mod Opposites
pub mod Tables
pub mod Sound
