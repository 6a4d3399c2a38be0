pub mod Trail
pub mod Table
