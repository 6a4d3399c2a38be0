-- What contracts see of a source over a reader, and of a sink over a writer.
use Rattle.std.specs.Prelude.{ℕ}

pub record Counted (A : Type 0) : Type 0 where
  pub inner : A
  -- the calls that failed
  pub faults : ℕ
