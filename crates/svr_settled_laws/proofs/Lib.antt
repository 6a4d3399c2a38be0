pub mod SlotKinds
pub mod WishedMembers
pub mod UntouchedItems
