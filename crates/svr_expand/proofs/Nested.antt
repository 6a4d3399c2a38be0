-- Whether a place stands in a loop, by the number of its indexes.
use Rattle.std.proofs.Common.{◌≡◌, ℕ, refl, ◌∙◌, ap, arith, List, [], ◌∷◌, length}
use Rattle.std.specs.Prelude.{nat_lt}
use Rattle.std.proofs.lemmas.Bool.Decides.{nat_tests}
use Rattle.svr_frame.specs.Occurrences.{has_index}

has_depth : (env : List ℕ) → nat_lt 0 (length env) ≡ has_index env
has_depth [] = refl
has_depth (i ∷ is) = grind (arith, nat_tests)

pub is_nested : (n : ℕ) (env : List ℕ) → n ≡ length env → nat_lt 0 n ≡ has_index env
is_nested n env h = ap (λ k. nat_lt 0 k) h ∙ has_depth env
