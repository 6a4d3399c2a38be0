-- What holds for some number or each number below another.
use Rattle.std.proofs.Common.{◌≡◌, ℕ, zero, suc, ◌<◌, Bool, true, false, ◌&&◌, ◌||◌, ◌==◌, rules, refl, sym, ap, ◌∙◌, arith, ⊎_elim}
use Rattle.std.proofs.Math.Bool.{and-false}
use Rattle.std.proofs.Math.Nat.{eq-or-lt_of_le, le_of_suc-le-suc}
use Rattle.svr_eval.specs.Value.{any_below}
use Rattle.svr_eval.specs.Holds.{all_below}

or-true : (b : Bool) → (b || true) ≡ true
or-true true = refl
or-true false = refl

pub any_below_true : (n i : ℕ) (f : ℕ → Bool) → i < n → f i ≡ true → any_below n f ≡ true
any_below_true zero i f h e = absurd (omega arith)
any_below_true (suc n) i f h e =
    ⊎_elim (λ eq. ap (λ b. any_below n f || b) (ap f (sym eq) ∙ e) ∙ or-true (any_below n f)) (λ lt. ap (λ b. b || f n) (any_below_true n i f lt e))
    (eq-or-lt_of_le (le_of_suc-le-suc h))

pub all_below_false : (n i : ℕ) (f : ℕ → Bool) → i < n → f i ≡ false → all_below n f ≡ false
all_below_false zero i f h e = absurd (omega arith)
all_below_false (suc n) i f h e =
    ⊎_elim (λ eq. ap (λ b. all_below n f && b) (ap f (sym eq) ∙ e) ∙ and-false (all_below n f)) (λ lt. ap (λ b. b && f n) (all_below_false n i f lt e))
    (eq-or-lt_of_le (le_of_suc-le-suc h))

pub same_is_true : (m n : ℕ) → m ≡ n → (m == n) ≡ true
same_is_true m n e = search (e, rules)
