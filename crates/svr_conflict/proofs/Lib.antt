pub mod Cuts
pub mod Items
pub mod Told
pub mod Concluded
