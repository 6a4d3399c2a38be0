-- Chosen numbers of scalars, put into rows from the last to the first.
use Rattle.std.proofs.Common.{◌≡◌, ◌≢◌, ◌<◌, ◌≤◌, ◌==◌, ◌+◌, ◌-◌, ◌&&◌, ℕ, zero, suc, Bool, true, false, List, [], ◌∷◌, ◌++◌, map, length, drop, get_or, slice_set, refl, sym, ap, ◌∙◌, arith}
use Rattle.std.specs.Prelude.{if◌then◌else◌, slice_index, slice_index_or}
use Rattle.std.proofs.lemmas.Bool.{eqb-true, eq-eqb}
use Rattle.std.proofs.lemmas.List.{get_or-set_same, get_or-set_other, drop_more, at_drop_all}
use Rattle.svr_frame.specs.declared.slot.Slot.TheVariants.{Scalar}
use Rattle.svr_frame.specs.Satisfaction.{is_at}
use Rattle.svr_draw.specs.Preferred.{number_in}

-- a row without a number changes nothing
pub empty_more : (rows : List (List ℕ)) (p : ℕ) → get_or (rows ++ [] ∷ []) p [] ≡ get_or rows p []
empty_more [] zero = refl
empty_more [] (suc p) = refl
empty_more (r ∷ rows) zero = refl
empty_more (r ∷ rows) (suc p) = empty_more rows p

-- a row with another first number
pub first_alone : (row : List ℕ) (n : ℕ) → length row ≡ 0 → n ∷ [] ≡ n ∷ drop 1 row
first_alone [] n none = refl
first_alone (x ∷ row) n none = absurd (omega (arith, none))

pub first_set : (row : List ℕ) (n : ℕ) → 0 < length row → slice_set row 0 n ≡ n ∷ drop 1 row
first_set [] n some = absurd (omega (arith, some))
first_set (x ∷ row) n some = refl

unequal : (x y : ℕ) → (x == y) ≡ false → y ≢ x
unequal x y h = λ s. let t : true ≡ false = sym (eq-eqb x y (sym s)) ∙ h in cc

first_of : (n : ℕ) (row : List ℕ) (i : ℕ) (b : Bool) → (i == 0) ≡ b → slice_index (n ∷ drop 1 row) i ≡ (if b then n else slice_index row i)
first_of n row zero true e = refl
first_of n row zero false e = absurd (let no : true ≡ false = e in cc)
first_of n row (suc i) true e = absurd (let s : suc i ≡ 0 = eqb-true (suc i) 0 e in omega (arith, s))
first_of n [] (suc i) false e = refl
first_of n (x ∷ row) (suc i) false e = refl

module _ (old grown new : List (List ℕ)) (prop number : ℕ) (row : List ℕ) (there : prop < length grown) (same : (p : ℕ) → slice_index_or grown p [] ≡ slice_index_or old p [])
    (is_row : row ≡ number ∷ drop 1 (slice_index_or grown prop [])) (is : new ≡ slice_set grown prop row) where
  at_prop : (p i : ℕ) (b : Bool) → (prop == p) ≡ b → slice_index (slice_index_or new p []) i ≡ (if b && (i == 0) then number else slice_index (slice_index_or old p []) i)
  at_prop p i true e =
      let s : prop ≡ p = eqb-true prop p e in
      ap (λ (rs : List (List ℕ)). slice_index (slice_index_or rs p []) i) is
      ∙ ap (λ k. slice_index (slice_index_or (slice_set grown prop row) k []) i) (sym s)
      ∙ ap (λ (r : List ℕ). slice_index r i) (get_or-set_same grown prop row [] there ∙ is_row)
      ∙ first_of number (slice_index_or grown prop []) i (i == 0) refl
      ∙ ap (λ (r : List ℕ). if i == 0 then number else slice_index r i) (same prop)
      ∙ ap (λ k. if i == 0 then number else slice_index (slice_index_or old k []) i) s
  at_prop p i false e =
      ap (λ (rs : List (List ℕ)). slice_index (slice_index_or rs p []) i) is
      ∙ ap (λ (r : List ℕ). slice_index r i) (get_or-set_other grown prop p row [] (unequal prop p e) ∙ same p)

  -- the number is at its place, and all else is as before
  pub put_numbers : (p i : ℕ) → slice_index (slice_index_or new p []) i ≡ number_in ((Scalar prop, number) ∷ []) p i (slice_index (slice_index_or old p []) i)
  put_numbers p i = at_prop p i (prop == p) refl

-- ---- all chosen numbers

-- before the first step none is put
pub none_put : (chosen : List (ℕ × ℕ)) (p i other : ℕ) → other ≡ number_in (map (λ (c : ℕ × ℕ). (Scalar c.0, c.1)) (drop (length chosen) chosen)) p i other
none_put chosen p i other = sym (at_drop_all (λ (cs : List (ℕ × ℕ)). number_in (map (λ (c : ℕ × ℕ). (Scalar c.0, c.1)) cs) p i other) chosen (length chosen) (omega arith))

-- one more in front
pub one_put : (chosen : List (ℕ × ℕ)) (at : ℕ) (d : ℕ × ℕ) → 0 < at → at ≤ length chosen → (p i now next other : ℕ)
    → next ≡ (if is_at p i (Scalar (get_or chosen (at - 1) d).0) then (get_or chosen (at - 1) d).1 else now)
    → now ≡ number_in (map (λ (c : ℕ × ℕ). (Scalar c.0, c.1)) (drop at chosen)) p i other
    → next ≡ number_in (map (λ (c : ℕ × ℕ). (Scalar c.0, c.1)) (drop (at - 1) chosen)) p i other
one_put chosen at d some le p i now next other after before =
    let x = get_or chosen (at - 1) d in
    let again : at - 1 + 1 ≡ at = omega (arith, some) in
    let front : drop (at - 1) chosen ≡ get_or chosen (at - 1) d ∷ drop at chosen = drop_more chosen (at - 1) d (omega (arith, some, le)) ∙ ap (λ n. get_or chosen (at - 1) d ∷ drop n chosen) again in
    after
    ∙ ap (λ n. if is_at p i (Scalar x.0) then x.1 else n) before
    ∙ sym (ap (λ (cs : List (ℕ × ℕ)). number_in (map (λ (c : ℕ × ℕ). (Scalar c.0, c.1)) cs) p i other) front)
