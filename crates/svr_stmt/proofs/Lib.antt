pub mod Rooms
pub mod Local
