-- How a run of a text ends, and what it tells.
use Rattle.std.specs.Prelude.{◌≡◌, ℕ, false, List, []}
use Rattle.svr_typed.specs.StmtTerm.{DesignTerm}
use Rattle.svr_phase.specs.declared.options.Options.{Options}
use Rattle.svr_script.specs.Printed.{Event}
use Rattle.svr_script.specs.Conflicts.{HaveConflicts}
use Rattle.svr_script.specs.Run.{State, IsRun, IsSoFar, Printing, Counts, counts_of, journal_of}
use Rattle.svr_script.specs.Ending as ending
use Rattle.svr_script.specs.Ending.{Ending, HasEnding, Output, output_of, RunEnds}
use Rattle.svr_run_budget_laws.specs.Runs.{CallsGiveUpOverMany}
use Rattle.svr_run.specs.declared.extra.Extra.{Extra}
use Rattle.svr_run.specs.Telling.{printing_of}
use Rattle.svr_load.specs.Script.{load_text}
use Rattle.svr_words.specs.declared.request.Run.{Run}
use Rattle.svr_refused.specs.Texts.{HasDesign}
use Rattle.svr_answer.specs.Lines.{load_line}

-- ---- runs of a text's script

-- what is told beside the lines, where its flags were used
abbrev pub extra_of : Run → Extra
extra_of asked = record { conflicts = asked.conflicts; lrat = asked.lrat }

abbrev pub printing : Run → Printing
printing asked = printing_of asked.opts (extra_of asked)

-- A run comes to its end, and this is what it has to write. Each question that was given up is over many bits for the budget.
pub record Ends (asked : Run) (text : List ℕ) (ending : Ending) (output : Output) : Type 0 where
  pub design : DesignTerm
  pub read : HasDesign text design
  pub run : RunEnds design asked.opts (printing asked) ending output
  pub many : CallsGiveUpOverMany asked.opts run.events

-- a run has come this far, and this is what its calls tell
pub record Begins (asked : Run) (text : List ℕ) (output : Output) : Type 0 where
  pub design : DesignTerm
  pub read : HasDesign text design
  pub events : List Event
  pub state : State
  pub so_far : IsSoFar design asked.opts events state
  pub conflicts : HaveConflicts asked.conflicts asked.opts.budget events
  pub many : CallsGiveUpOverMany asked.opts events
  pub output_is : output ≡ output_of (printing asked) events

-- ---- loads

-- what is printed of a load whose run ended so: how many calls were answered and given up, and nothing where a limit was met
abbrev pub summary : ℕ → Counts → Ending → List ℕ
summary count n ending.AllOne = load_line count n
summary count n ending.SomeZero = load_line count n
summary count n ending.SomeGivenUp = load_line count n
summary count n ending.Limited = []

-- The run of the script of a load comes to its end. Its logs go to the journal, and nothing else of its calls is printed but their counts.
pub record LoadEnds (count : ℕ) (opts : Options) (how : Ending) (output : Output) : Type 0 where
  pub design : DesignTerm
  pub read : HasDesign (load_text count) design
  pub events : List Event
  pub state : State
  pub run : IsRun design opts events state
  pub conflicts : HaveConflicts false opts.budget events
  pub many : CallsGiveUpOverMany opts events
  pub ending_is : HasEnding state (counts_of events) how
  pub output_is : output ≡ record { printed = summary count (counts_of events) how; journal = journal_of events }

-- it has come this far
pub record LoadBegins (count : ℕ) (opts : Options) (output : Output) : Type 0 where
  pub design : DesignTerm
  pub read : HasDesign (load_text count) design
  pub events : List Event
  pub state : State
  pub so_far : IsSoFar design opts events state
  pub conflicts : HaveConflicts false opts.budget events
  pub many : CallsGiveUpOverMany opts events
  pub output_is : output ≡ record { printed = []; journal = journal_of events }
