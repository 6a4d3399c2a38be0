use Rattle.std.proofs.Common.{◌≡◌, ◌<◌, ℕ, true}
use Rattle.svr_elab_order.specs.Graph.{is_settled}
use Rattle.svr_elab_order.proofs.find.are_all.Given as goal

abbrev pub invariant-loop-node : goal.invariant-loop-node
invariant-loop-node l = (v : ℕ) → v < l.node → is_settled l.ranks v ≡ true
