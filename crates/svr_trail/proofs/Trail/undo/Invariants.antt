use Rattle.std.proofs.Common.{length}
use Rattle.svr_trail.proofs.TableLemmas.{UndoKeeps}
use Rattle.svr_trail.proofs.Trail.undo.Given as goal

abbrev pub invariant-undo : goal.invariant-undo
invariant-undo l = UndoKeeps l.initial.self-inside l.self-inside l.keep

abbrev pub decreases-undo : goal.decreases-undo
decreases-undo l = length l.self-inside.entries.items
