use Rattle.std.proofs.Common.{◌≡◌, take}
use Rattle.svr_elab_order.proofs.graph.nodes_of.Given as goal

abbrev pub invariant-loop-number : goal.invariant-loop-number
invariant-loop-number l = l.nodes ≡ take l.number-index l.numbers
