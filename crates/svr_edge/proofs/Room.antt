-- When a sink in memory fails.
use Rattle.std.proofs.Common.{◌≡◌, ◌≤◌, ◌<◌, ◌-◌, ◌==◌, ◌⊎◌, ◌↔◌, ℕ, min, Bool, true, false, not, inl, inr, arith, Result, Ok, Err}
use Rattle.std.specs.Result.{is_ok, is_err}

-- a piece with no byte that fits
pub is_full : (full empty : Bool) (size room held count : ℕ) → count ≡ min size (room - held) → count ≡ 0 → full ≡ not empty → full ≡ true → empty ≡ (size == 0)
    → (0 < size) × (room ≤ held)
is_full full empty size room held count is none f t e =
    let some : 0 < size = grind arith in
    (some, omega (arith, is, none, some))

pub is_empty_piece : (full empty : Bool) (size : ℕ) → full ≡ not empty → full ≡ false → empty ≡ (size == 0) → size ≡ 0
is_empty_piece full empty size f t e = grind arith

-- it takes what fits
pub takes : (told : Bool) (P : Type 0) (size room held count : ℕ) → ((told ≡ true) ↔ P) → told ≡ false → count ≡ min size (room - held) → (count ≡ 0 → size ≡ 0)
    → (false ≡ true) ↔ (P ⊎ ((0 < size) × (room ≤ held)))
takes told P size room held count is good c empty = (
  λ e. cc,
  λ h. elim h [
    | inl p ↦ let t = is.1 p in cc
    | inr q ↦ let z : count ≡ 0 = omega (arith, c, q.1) in let s = empty z in absurd (omega (arith, s, q.0))
  ],
)

pub not_both : {T E : Type 0} (r : Result T E) → is_ok r ≡ true → true ≡ is_err r → ⊥
not_both (Ok x) a b = cc
not_both (Err e) a b = cc
