-- Lawful designs can be run, and what is sampled of their runs.
use Rattle.svr_limits.specs.declared.limit.TheConstants.{ELEMENT_LIMIT, STATEMENT_LIMIT}
use Rattle.std.specs.Prelude.{◌≤◌, ◌<◌, ◌^◌, ℕ, List, [], length, slice_index, slice_index_or}
use Rattle.std.specs.List.{All}
use Rattle.svr_typed.specs.StmtTerm.{DesignTerm}
use Rattle.svr_design.specs.Lawful.{IsLawful}
use Rattle.svr_phase.specs.declared.options.Options.{Options}
use Rattle.svr_script.specs.Printed.{Event}
use Rattle.svr_script.specs.Run.{State, IsSoFar, Sample, samples_of}
use Rattle.svr_run.specs.CanRun.{CanRun}

-- no array is chosen longer than one may be
abbrev pub LawfulCanRun : Type 0
LawfulCanRun = (d : DesignTerm) (opts : Options) → opts.size_cap ≤ ELEMENT_LIMIT → IsLawful d → CanRun d opts

-- each number of an object is one of 64 bits
abbrev pub AreStored : List (List ℕ) → Type 0
AreStored values = (p i : ℕ) → slice_index (slice_index_or values p []) i < 2 ^ 64

-- samples of such numbers, and no more than a script has statements
pub record AreSamples (ss : List Sample) : Type 0 where
  pub stored : All (λ s. AreStored s.values) ss
  pub few : length ss ≤ STATEMENT_LIMIT

-- those of a run, whatever it has come to
abbrev pub LawfulIsSampled : Type 0
LawfulIsSampled = (d : DesignTerm) (opts : Options) → opts.size_cap ≤ ELEMENT_LIMIT → IsLawful d → (es : List Event) (t : State) → IsSoFar d opts es t → AreSamples (samples_of es)
