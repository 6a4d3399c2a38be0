pub mod Codes
pub mod Store
pub mod StoreFields
pub mod Watch
pub mod ArenaOf
