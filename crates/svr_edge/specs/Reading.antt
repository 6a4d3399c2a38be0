-- How the reading of a text ends.
use Rattle.std.specs.Prelude.{◌≡◌, ◌≤◌, ℕ, ◌+◌, List}
use Rattle.std.specs.declared.option.Option.{Option}
use Rattle.std.specs.Io.KnownBytes.{Consumes, IsAtEnd}
use Rattle.svr_edge.specs.Causes.{Rose}
use Rattle.svr_edge.specs.Known.{Takes, TakesUpTo}
use Rattle.svr_edge.specs.declared.text.ReadEnd.{ReadEnd}
use Rattle.svr_edge.specs.declared.text.ReadEnd.TheVariants.{TooLong, Failed, NoMemory}

-- the text is all that was left
abbrev pub IsWhole : Option (List ℕ) → Option (List ℕ) → List ℕ → Type 0
IsWhole old new text = Consumes old new text × IsAtEnd new

-- What was taken, and which faults were counted, by the cause for which the text was not read. It is too long where
-- one byte more than the limit was taken.
pub record Stopped (why : ReadEnd) (old new : Option (List ℕ)) (limit before now : ℕ) : Type 0 where
  pub too_long : why ≡ TooLong → Takes old new (limit + 1)
  pub failed_within : why ≡ Failed → TakesUpTo old new limit
  pub no_memory_within : why ≡ NoMemory → TakesUpTo old new limit
  pub failed : why ≡ Failed → Rose before now
  pub later : before ≤ now
