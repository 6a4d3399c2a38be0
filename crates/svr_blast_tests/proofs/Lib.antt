pub mod Sound
pub mod Asked
