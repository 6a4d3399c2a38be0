use Rattle.std.proofs.Common.{ℕ, Bool, ◌<◌}
use Rattle.svr_gate.specs.Folding.{IsCopy}
use Rattle.svr_gate.proofs.fold.kind_of.Given as goal

abbrev pub invariant-loop-place : goal.invariant-loop-place
invariant-loop-place l = (j : ℕ) → j < l.place → (same : Bool) → IsCopy l.gate j same → ⊥
