-- Names without the last one.
use Rattle.std.proofs.Common.{◌≡◌, ℕ, List, [], ◌∷◌, ◌++◌, Option, Some, None, refl, sym, ◌∙◌, ap}
use Rattle.std.specs.Prelude.{MatchOption}
use Rattle.svr_expr.specs.ExprRules.{all_but_last}

pub but_last : (n : ℕ) (ns : List ℕ) → all_but_last (ns ++ n ∷ []) ≡ ns
but_last n [] = refl
but_last n (a ∷ []) = refl
but_last n (a ∷ (b ∷ ns)) = ap (λ rest. a ∷ rest) (but_last n (b ∷ ns))

pub popped : (old new : List ℕ) (r : Option ℕ) → MatchOption r ((old ≡ []) × (new ≡ [])) (λ last. old ≡ new ++ last ∷ []) → new ≡ all_but_last old
popped old new None h = h.1 ∙ sym (ap all_but_last h.0)
popped old new (Some n) h = sym (ap all_but_last h ∙ but_last n new)
