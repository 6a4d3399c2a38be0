-- How a run of a script ends, and what it has written.
use Rattle.std.specs.Prelude.{◌≡◌, false, true, cond, List, Option, Some}
use Rattle.svr_typed.specs.StmtTerm.{DesignTerm}
use Rattle.svr_phase.specs.declared.options.Options.{Options}
use Rattle.svr_script.specs.Printed.{Event}
use Rattle.svr_script.specs.Conflicts.{HaveConflicts}
use Rattle.svr_script.specs.Run.{State, IsRun, Sample, gathered}
use Rattle.svr_run.specs.declared.extra.Extra.{Extra}
use Rattle.svr_run.specs.declared.progress.Progress.{Progress}
use Rattle.svr_run.specs.declared.run.End.{End}
use Rattle.svr_run.specs.declared.run.End.TheVariants.{Ended, Limit, Stopped}
use Rattle.svr_run.specs.Telling.{Sinks, Tells, HasCounts, printing_of}
use Rattle.svr_run.specs.Reached.{Stops}

-- A run came to its end, with so many answers; its last call met a limit; or it stopped before. From the old sinks to the new ones all of it was written, or where it stopped, a front.
abbrev pub Ends : DesignTerm → Options → Extra → End → Sinks → Sinks → Type 0
Ends d opts extra (Ended n) old new =
    (es : List Event) × (t : State) × IsRun d opts es t × (t.limited ≡ false) × HasCounts n es
    × HaveConflicts extra.conflicts opts.budget es × Tells (printing_of opts extra) es old new
Ends d opts extra Limit old new =
    (es : List Event) × (t : State) × IsRun d opts es t × (t.limited ≡ true)
    × HaveConflicts extra.conflicts opts.budget es × Tells (printing_of opts extra) es old new
Ends d opts extra (Stopped why) old new = Stops d opts extra old why new

-- The same of a run that is watched. The watch told `before` when it began; where it came to its end or met a limit, the watch tells what it gathered of the samples, and `behind` says so.
abbrev pub Watches : {C : Type 0} → (C → Sample → C) → C → Option C → DesignTerm → Options → Extra → End → Sinks → Sinks → Type 0
Watches take before behind d opts extra (Ended n) old new =
    (es : List Event) × (t : State) × IsRun d opts es t × (t.limited ≡ false) × HasCounts n es
    × HaveConflicts extra.conflicts opts.budget es × Tells (printing_of opts extra) es old new
    × (behind ≡ Some (gathered take before es))
Watches take before behind d opts extra Limit old new =
    (es : List Event) × (t : State) × IsRun d opts es t × (t.limited ≡ true)
    × HaveConflicts extra.conflicts opts.budget es × Tells (printing_of opts extra) es old new
    × (behind ≡ Some (gathered take before es))
Watches take before behind d opts extra (Stopped why) old new = Stops d opts extra old why new

-- of a run that has no more statements to execute
abbrev pub end_of : Progress → End
end_of p = cond p.limited Limit (Ended p.counts)
