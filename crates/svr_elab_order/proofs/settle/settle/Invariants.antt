use Rattle.svr_elab_order.specs.Graph.{IsRanking, left_open}
use Rattle.svr_elab_order.proofs.settle.settle.Given as goal

abbrev pub invariant-loop-node : goal.invariant-loop-node
invariant-loop-node l = IsRanking l.graph l.ranking

abbrev pub decreases-loop-node : goal.decreases-loop-node
decreases-loop-node l = left_open l.ranking.ranks.items
