pub mod Blocks
pub mod Refusals
pub mod Seen
pub mod Tables
pub mod Trees
pub mod Making
pub mod Reading
