pub mod Computed
pub mod Copies
pub mod Written
pub mod Flats
pub mod Renamed
pub mod Gathered
pub mod PlacedLists
pub mod Rows
