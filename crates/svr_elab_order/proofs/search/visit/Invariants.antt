use Rattle.std.proofs.Common.{◌+◌, ◌*◌, length}
use Rattle.svr_elab_order.specs.Graph.{IsRanking}
use Rattle.svr_elab_order.proofs.Seen.{unmarked}
use Rattle.svr_elab_order.proofs.search.visit.Given as goal

abbrev pub invariant-loop-step : goal.invariant-loop-step
invariant-loop-step l = IsRanking l.graph l.ranking

abbrev pub decreases-loop-step : goal.decreases-loop-step
decreases-loop-step l = 2 * unmarked l.seen.items + length l.way
