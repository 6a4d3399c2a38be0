use Rattle.std.proofs.Common.{◌≡◌, ◌<◌, ℕ, false}
use Rattle.svr_elab_order.specs.Graph.{is_settled, IsHeld}
use Rattle.svr_elab_order.proofs.settle.find_ready.Given as goal

abbrev pub invariant-loop-node : goal.invariant-loop-node
invariant-loop-node l = (v : ℕ) → v < l.node → is_settled l.ranks v ≡ false → IsHeld l.graph l.ranks v
