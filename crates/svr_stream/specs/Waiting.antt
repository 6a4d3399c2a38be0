-- What contracts see of bytes on their way to a sink.
use Rattle.std.specs.Prelude.{ℕ, Bool, List}

pub record Waiting : Type 0 where
  -- the bytes that are not written yet
  pub bytes : List ℕ
  -- whether the sink has failed
  pub failed : Bool
