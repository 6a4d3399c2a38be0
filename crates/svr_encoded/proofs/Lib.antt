pub mod SlotLemmas
pub mod EncodedLemmas
pub mod ServedLemmas
pub mod Reached
pub mod BridgeLemmas
pub mod UnknownLemmas
pub mod RoomLemmas
