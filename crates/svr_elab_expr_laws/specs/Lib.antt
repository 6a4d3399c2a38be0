pub mod Accepted
pub mod Known
pub mod ReadFits
