pub mod BitwiseLemmas
pub mod LiteralLemmas
pub mod OperatorLemmas
pub mod PickLemmas
