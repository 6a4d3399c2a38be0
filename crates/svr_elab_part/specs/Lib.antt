pub mod Elab
pub mod Shapes
pub mod Forms
pub mod Seen
pub mod Fits
