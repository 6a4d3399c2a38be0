pub mod Needed
pub mod Marks
pub mod Made
pub mod Leads
pub mod Examples
