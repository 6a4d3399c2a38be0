-- One more empty list behind so many.
use Rattle.std.proofs.Common.{◌≡◌, ℕ, ◌+◌, Bool, false, sym, ◌∙◌, List, [], ◌∷◌, ◌++◌, replicate, is_ok, is_err, Result, Ok, Err, if◌then◌else◌}
use Rattle.std.proofs.lemmas.Bool.{false≢true}
use Rattle.std.proofs.lemmas.Grind.{replicate_next}

pub one_more : {T E A : Type 0} (r : Result T E) (failed : Bool) (old new : List A) (x y : A) (n : ℕ) → failed ≡ is_err r → failed ≡ false → new ≡ (if is_ok r then old ++ x ∷ [] else old) → x ≡ y → old ≡ replicate n y → new ≡ replicate (n + 1) y
one_more (Ok v) failed old new x y n e f h k before = h ∙ (λ i. before i ++ k i ∷ []) ∙ sym (replicate_next n y)
one_more (Err v) failed old new x y n e f h k before = absurd (false≢true (sym f ∙ e))
