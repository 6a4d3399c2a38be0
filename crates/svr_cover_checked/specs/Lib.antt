pub mod Numbers
pub mod Places
pub mod Tables
pub mod Design
pub mod Refusals
pub mod Seen
