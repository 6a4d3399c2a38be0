-- How a run that came to its end has ended, and what it has to write.
use Rattle.std.specs.Prelude.{◌≡◌, ◌<◌, ℕ, true, false, List}
use Rattle.svr_typed.specs.StmtTerm.{DesignTerm}
use Rattle.svr_phase.specs.declared.options.Options.{Options}
use Rattle.svr_script.specs.Printed.{Event}
use Rattle.svr_script.specs.Conflicts.{HaveConflicts}
use Rattle.svr_script.specs.Run.{State, IsRun, Printing, text_of, journal_of, Counts, counts_of}

-- every call answered 1; some answered 0, and none was given up; some was given up; the last one met a limit
pub data Ending : Type 0 where
  AllOne SomeZero SomeGivenUp Limited : Ending

abbrev pub HasEnding : State → Counts → Ending → Type 0
HasEnding t n AllOne = (t.limited ≡ false) × (n.zeros ≡ 0) × (n.given_up ≡ 0)
HasEnding t n SomeZero = (t.limited ≡ false) × (0 < n.zeros) × (n.given_up ≡ 0)
HasEnding t n SomeGivenUp = (t.limited ≡ false) × (0 < n.given_up)
HasEnding t n Limited = t.limited ≡ true

-- what a run has to write: the printed text, and the logs of the questions that were given up
pub record Output : Type 0 where
  pub printed : List ℕ
  pub journal : List ℕ

abbrev pub output_of : Printing → List Event → Output
output_of how es = record { printed = text_of how es; journal = journal_of es }

-- a run of the script to its end, and the items that contradict each other where they were asked for, with this to write
pub record RunEnds (d : DesignTerm) (opts : Options) (how : Printing) (ending : Ending) (output : Output) : Type 0 where
  pub events : List Event
  pub state : State
  pub run : IsRun d opts events state
  pub conflicts : HaveConflicts how.conflicts opts.budget events
  pub ending_is : HasEnding state (counts_of events) ending
  pub output_is : output ≡ output_of how events
