-- Texts of which a front has gone.
use Rattle.std.specs.Prelude.{ℕ, List, take}
use Rattle.svr_stream.specs.Puts.{Place, Puts}

-- So many bytes of the text have gone behind what waited: perhaps none, perhaps all.
pub record PutsFront (old new : Place) (text : List ℕ) : Type 0 where
  pub count : ℕ
  pub puts : Puts old new (take count text)
