-- Keys of numbers
use Rattle.std.proofs.Common.{◌≡◌, ℕ, ◌+◌, ◌*◌, ◌^◌, ◌<◌, ◌≤◌, Bool, true, false, cond, ◌&&◌, eqb, ltb, Option, Some, None, ⊎_elim, refl, sym, ◌∙◌, ap, arith}
use Rattle.std.specs.Prelude.{nat_lt, if◌then◌else◌}
use Rattle.std.proofs.lemmas.Bool.{and_parts, and_from, eqb-true, eq-eqb, cases_lt, lt-ltb, le-ltb}
use Rattle.std.proofs.lemmas.Bool.Decides.{Decides-eqb, same_from_decides}

-- two keys are the same just where property and place are
pub key_test : (p i q j : ℕ) → i < 2 ^ 32 → j < 2 ^ 32 → eqb (p * 2 ^ 32 + i) (q * 2 ^ 32 + j) ≡ (eqb p q && eqb i j)
key_test p i q j h k =
    same_from_decides (eqb (p * 2 ^ 32 + i) (q * 2 ^ 32 + j)) (eqb p q && eqb i j) (Decides-eqb (p * 2 ^ 32 + i) (q * 2 ^ 32 + j)) (
      (λ t. let b = and_parts (eqb p q) (eqb i j) t in let e : p ≡ q = eqb-true p q b.0 in let f : i ≡ j = eqb-true i j b.1 in omega arith),
      (λ e. let s : p ≡ q = omega arith in let t : i ≡ j = omega arith in and_from (eqb p q) (eqb i j) (eq-eqb p q s) (eq-eqb i j t)),
    )

other_place : (p i q j : ℕ) → i < j → (eqb p q && eqb i j) ≡ false
other_place p i q j h = by_test (eqb i j) refl where
  by_test : (b : Bool) → eqb i j ≡ b → (eqb p q && b) ≡ false
  by_test true e = let s : i ≡ j = eqb-true i j e in absurd (omega arith)
  by_test false e = by_first (eqb p q) where
    by_first : (b : Bool) → (b && false) ≡ false
    by_first true = refl
    by_first false = refl

-- what is found under a key after one more was put in
pub put_at : (p i q j row : ℕ) (before after : ℕ → Option ℕ) → i < 2 ^ 32 → ((k : ℕ) → after k ≡ cond (eqb (p * 2 ^ 32 + i) k) (Some row) (before k))
    → (if nat_lt j (2 ^ 32) then after (q * 2 ^ 32 + j) else None) ≡ (if eqb p q && eqb i j then Some row else (if nat_lt j (2 ^ 32) then before (q * 2 ^ 32 + j) else None))
put_at p i q j row before after h u =
    ⊎_elim
    (λ (l : j < 2 ^ 32).
    ap (λ b. cond b (after (q * 2 ^ 32 + j)) None) (lt-ltb j (2 ^ 32) l) ∙ u (q * 2 ^ 32 + j)
    ∙ ap (λ b. cond b (Some row) (before (q * 2 ^ 32 + j))) (key_test p i q j h l)
    ∙ ap (λ b. cond (eqb p q && eqb i j) (Some row) (cond b (before (q * 2 ^ 32 + j)) None)) (sym (lt-ltb j (2 ^ 32) l)))
    (λ (g : 2 ^ 32 ≤ j).
    ap (λ b. cond b (after (q * 2 ^ 32 + j)) None) (le-ltb j (2 ^ 32) g)
    ∙ ap (λ b. cond b (before (q * 2 ^ 32 + j)) None) (sym (le-ltb j (2 ^ 32) g))
    ∙ ap (λ b. cond b (Some row) (cond (ltb j (2 ^ 32)) (before (q * 2 ^ 32 + j)) None)) (sym (other_place p i q j (omega arith))))
    (cases_lt j (2 ^ 32))
