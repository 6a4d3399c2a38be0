-- How far a run has come, and how it stops before its end.
use Rattle.std.specs.Prelude.{◌≡◌, ◌≤◌, false, true, ◌⊎◌, List, [], ◌∷◌, ◌++◌, length}
use Rattle.svr_typed.specs.StmtTerm.{CallTerm, StmtTerm, call, DesignTerm}
use Rattle.svr_phase.specs.declared.options.Options.{Options}
use Rattle.svr_script.specs.Printed.{Event}
use Rattle.svr_script.specs.Statement.{frame_in}
use Rattle.svr_script.specs.Conflicts.{HaveConflicts}
use Rattle.svr_script.specs.Run.{State, Runs, begin, statements, IsSoFar, gathered}
use Rattle.svr_run.specs.declared.extra.Extra.{Extra}
use Rattle.svr_run.specs.declared.progress.Counts.{Counts}
use Rattle.svr_run.specs.declared.progress.Progress.{Progress}
use Rattle.svr_run.specs.declared.stop.Stop.{Stop}
use Rattle.svr_run.specs.declared.stop.Stop.TheVariants.{NoMemory, WriteFault}
use Rattle.svr_run.specs.declared.watched.Watched.{Watched}
use Rattle.svr_run.specs.Watching.{Watcher, taken}
use Rattle.svr_run.specs.Telling.{Sinks, Tells, TellsFront, SinkFailed, HasCounts, printing_of}

abbrev pub state_of : Progress → State
state_of p = record { world = p.world; calls = p.calls; limited = p.limited }

abbrev pub no_counts : Counts
no_counts = record { ones = 0; zeros = 0; given_up = 0 }

-- what the sinks had, and what the watch told, when the run began
pub record Start (C : Type 0) : Type 0 where
  pub sinks : Sinks
  pub content : C

-- A run of the script has come to this: its first statements were executed, and these are left. What its calls told is counted, and stands behind what the sinks had first; the watch has taken its samples, and can take one of each statement that is left.
pub record IsAt {W C : Type 0} (wa : Watcher W C) (d : DesignTerm) (opts : Options) (extra : Extra) (first : Start C) (left : List StmtTerm) (p : Watched W) (now : Sinks) : Type 0 where
  pub done : List StmtTerm
  pub split : statements d ≡ done ++ left
  pub events : List Event
  pub runs : Runs d opts done (begin d) events (state_of p.progress)
  pub counts : HasCounts p.progress.counts events
  pub tells : Tells (printing_of opts extra) events first.sinks now
  pub conflicts : HaveConflicts extra.conflicts opts.budget events
  pub gathers : wa.content p.watch ≡ gathered (taken wa.step) first.content events
  pub room : length left ≤ wa.left p.watch

-- it has come to where these are left, or has met a limit before
pub record Comes {W C : Type 0} (wa : Watcher W C) (d : DesignTerm) (opts : Options) (extra : Extra) (first : Start C) (next : List StmtTerm) (p : Watched W) (now : Sinks) : Type 0 where
  pub left : List StmtTerm
  pub place : IsAt wa d opts extra first left p now
  pub there : (left ≡ next) ⊎ (p.progress.limited ≡ true)

-- A run so far has stopped: a front of what it tells was written; or a sink failed.
abbrev pub Stops : DesignTerm → Options → Extra → Sinks → Stop → Sinks → Type 0
Stops d opts extra first NoMemory now =
    (es : List Event) × (t : State) × IsSoFar d opts es t × HaveConflicts extra.conflicts opts.budget es × TellsFront (printing_of opts extra) es first now
Stops d opts extra first WriteFault now =
    (es : List Event) × (t : State) × IsSoFar d opts es t × HaveConflicts extra.conflicts opts.budget es × TellsFront (printing_of opts extra) es first now
    × SinkFailed first now

-- ---- one statement

-- some run of the script has come to where this statement is next
abbrev pub IsNext : {W C : Type 0} → Watcher W C → DesignTerm → Options → Extra → StmtTerm → Watched W → Sinks → Type 0
IsNext {W} {C} wa d opts extra x p now = (first : Start C) × (rest : List StmtTerm) × IsAt wa d opts extra first (x ∷ rest) p now

-- each run that has come to where it is next comes behind it
pub record Steps {W C : Type 0} (wa : Watcher W C) (d : DesignTerm) (opts : Options) (extra : Extra) (x : StmtTerm) (old : Watched W) (before : Sinks) (new : Watched W) (behind : Sinks) : Type 0 where
  pub steps : (first : Start C) (rest : List StmtTerm) → IsAt wa d opts extra first (x ∷ rest) old before → IsAt wa d opts extra first rest new behind

-- each run that has come to where it is next stops for this
pub record Halts {W C : Type 0} (wa : Watcher W C) (d : DesignTerm) (opts : Options) (extra : Extra) (x : StmtTerm) (old : Watched W) (before : Sinks) (why : Stop) (behind : Sinks) : Type 0 where
  pub halts : (first : Start C) (rest : List StmtTerm) → IsAt wa d opts extra first (x ∷ rest) old before → Stops d opts extra first.sinks why behind

-- ---- statements in a row

-- some run of the script has come to where these are next, or has met a limit before
abbrev pub IsBefore : {W C : Type 0} → Watcher W C → DesignTerm → Options → Extra → List StmtTerm → Watched W → Sinks → Type 0
IsBefore {W} {C} wa d opts extra xs p now = (first : Start C) × (rest : List StmtTerm) × Comes wa d opts extra first (xs ++ rest) p now

-- each run that has come to where these are next comes behind them
pub record Goes {W C : Type 0} (wa : Watcher W C) (d : DesignTerm) (opts : Options) (extra : Extra) (xs : List StmtTerm) (old : Watched W) (before : Sinks) (new : Watched W) (behind : Sinks) : Type 0 where
  pub goes : (first : Start C) (rest : List StmtTerm) → Comes wa d opts extra first (xs ++ rest) old before → Comes wa d opts extra first rest new behind

-- each run that has come to where these are next stops for this
pub record Breaks {W C : Type 0} (wa : Watcher W C) (d : DesignTerm) (opts : Options) (extra : Extra) (xs : List StmtTerm) (old : Watched W) (before : Sinks) (why : Stop) (behind : Sinks) : Type 0 where
  pub breaks : (first : Start C) (rest : List StmtTerm) → Comes wa d opts extra first (xs ++ rest) old before → Stops d opts extra first.sinks why behind
