pub mod Places
pub mod Named
pub mod Standing
pub mod Chain
pub mod Agreed
pub mod Forms
pub mod Shown
