pub mod SumLemmas
pub mod OrderLemmas
pub mod ProductLemmas
pub mod DivisionLemmas
pub mod SignedLemmas
