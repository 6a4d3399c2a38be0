pub mod AllTold
pub mod Appended
pub mod AllPlaced
