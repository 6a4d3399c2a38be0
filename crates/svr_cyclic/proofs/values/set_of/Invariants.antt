use Rattle.std.proofs.Common.{◌≡◌, ◌||◌, ℕ, drop}
use Rattle.std.specs.Prelude.{nat_eq}
use Rattle.std.specs.HashSet.{contains}
use Rattle.svr_phase.specs.Cyclic.{is_among}
use Rattle.svr_cyclic.proofs.values.set_of.Given as goal

abbrev pub invariant-loop-value : goal.invariant-loop-value
invariant-loop-value l = (q : ℕ) → (contains nat_eq l.set q || is_among q (drop l.value-index l.values)) ≡ is_among q l.values
