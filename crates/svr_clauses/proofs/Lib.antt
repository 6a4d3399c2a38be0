pub mod Turned
pub mod Fixed
pub mod OfState
pub mod Encodable
