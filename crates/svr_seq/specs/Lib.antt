pub mod SeqTerm
pub mod Sound
pub mod Line
pub mod Derives
pub mod Stack
pub mod Examples
