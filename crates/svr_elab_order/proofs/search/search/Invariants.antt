use Rattle.svr_elab_order.specs.Graph.{IsRanking}
use Rattle.svr_elab_order.proofs.search.search.Given as goal

abbrev pub invariant-loop-node : goal.invariant-loop-node
invariant-loop-node l = IsRanking l.graph l.ranking
