use Rattle.std.proofs.Common.{◌≡◌, ◌==◌, ◌||◌, ℕ, drop}
use Rattle.std.specs.Prelude.{nat_eq}
use Rattle.std.specs.List.{list_any}
use Rattle.std.specs.HashSet.{contains}
use Rattle.svr_frame_of.proofs.object.set_of.Given as goal

abbrev pub invariant-loop-prop : goal.invariant-loop-prop
invariant-loop-prop l = (q : ℕ) → (contains nat_eq l.set q || list_any (λ p. p == q) (drop l.prop-index l.listed)) ≡ list_any (λ p. p == q) l.listed
