use Rattle.std.proofs.Common.{◌≡◌, ℕ, true, take}
use Rattle.svr_elab_order.specs.Order.{is_in}
use Rattle.svr_elab_order.specs.Graph.{is_settled}
use Rattle.svr_elab_order.proofs.ranking.are_settled.Given as goal

abbrev pub invariant-loop-node : goal.invariant-loop-node
invariant-loop-node l = (u : ℕ) → is_in u (take l.node-index l.nodes) ≡ true → is_settled l.ranks u ≡ true
