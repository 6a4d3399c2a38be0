pub mod Growing
pub mod Marking
pub mod Chains
pub mod Tables
pub mod Accepted
pub mod Used
pub mod Whole
