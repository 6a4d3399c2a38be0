-- One number of an assignment is another.
use Rattle.std.proofs.Common.{◌≡◌, ◌≢◌, ◌<◌, ◌==◌, ◌&&◌, ℕ, Bool, true, false, refl, sym, ap, ◌∙◌, List, [], length, arith, ⊎_elim, slice_set}
use Rattle.std.specs.Prelude.{if◌then◌else◌, slice_index, slice_index_or}
use Rattle.std.proofs.lemmas.Bool.{cases_lt, eqb-true, eq-eqb, and_parts}
use Rattle.std.proofs.lemmas.List.{get_or-set_same, get_or-set_other, length-set}
use Rattle.svr_eval.specs.declared.assign.Assign.{Assign}
use Rattle.svr_eval.specs.Reading.{Reading, reading_of}
use Rattle.svr_draw.proofs.Built.{past_end}
use Rattle.svr_settled.specs.Steps.{with_number}

unequal : (x y : ℕ) → (x == y) ≡ false → y ≢ x
unequal x y h = λ s. let t : true ≡ false = sym (eq-eqb x y (sym s)) ∙ h in cc

module _ (a : Assign) (p i n : ℕ) (within : i < length (slice_index_or a.values p [])) where
  abbrev row : List ℕ
  row = slice_index_or a.values p []

  abbrev changed : Assign
  changed = record a { values = slice_set a.values p (slice_set row i n) }

  there : p < length a.values
  there = ⊎_elim (λ lt. lt) (λ le. let none : length row ≡ 0 = ap length (past_end a.values p [] le) in absurd (omega (arith, none, within))) (cases_lt p (length a.values))

  at_index : (j : ℕ) (b : Bool) → (i == j) ≡ b → slice_index (slice_set row i n) j ≡ (if b then n else slice_index row j)
  at_index j true e = ap (slice_index (slice_set row i n)) (sym (eqb-true i j e)) ∙ get_or-set_same row i n 0 within
  at_index j false e = get_or-set_other row i j n 0 (unequal i j e)

  at_place : (q j : ℕ) (b : Bool) → (p == q) ≡ b → slice_index (slice_index_or changed.values q []) j ≡ (if b && (i == j) then n else slice_index (slice_index_or a.values q []) j)
  at_place q j true e =
      let s : p ≡ q = eqb-true p q e in
      ap (λ k. slice_index (slice_index_or changed.values k []) j) (sym s)
      ∙ ap (λ (r : List ℕ). slice_index r j) (get_or-set_same a.values p (slice_set row i n) [] there)
      ∙ at_index j (i == j) refl
      ∙ ap (λ k. if i == j then n else slice_index (slice_index_or a.values k []) j) s
  at_place q j false e = ap (λ (r : List ℕ). slice_index r j) (get_or-set_other a.values p q (slice_set row i n) [] (unequal p q e))

  put_reads : reading_of changed ≡ with_number (reading_of a) p i n
  put_reads = λ k. record { element = λ q j. at_place q j (p == q) refl k; size = λ q. slice_index a.sizes q; script = λ s. slice_index a.script s }

  put_long : (q : ℕ) (b : Bool) → (p == q) ≡ b → length (slice_index_or changed.values q []) ≡ length (slice_index_or a.values q [])
  put_long q true e =
      let s : p ≡ q = eqb-true p q e in
      ap (λ k. length (slice_index_or changed.values k [])) (sym s)
      ∙ ap length (get_or-set_same a.values p (slice_set row i n) [] there)
      ∙ length-set row i n
      ∙ ap (λ k. length (slice_index_or a.values k [])) s
  put_long q false e = ap length (get_or-set_other a.values p q (slice_set row i n) [] (unequal p q e))

  -- it reads so, and each row is as long as before
  pub now_reads : (b : Assign) → b ≡ record a { values = slice_set a.values p (slice_set (slice_index_or a.values p []) i n) } → reading_of b ≡ with_number (reading_of a) p i n
  now_reads b is = ap reading_of is ∙ put_reads

  pub now_long : (b : Assign) → b ≡ record a { values = slice_set a.values p (slice_set (slice_index_or a.values p []) i n) } → (q : ℕ) → length (slice_index_or b.values q []) ≡ length (slice_index_or a.values q [])
  now_long b is q = ap (λ (x : Assign). length (slice_index_or x.values q [])) is ∙ put_long q (p == q) refl

-- the old number put back
pub put_back : (a : Reading) (p i n : ℕ) → with_number (with_number a p i n) p i (a.element p i) ≡ a
put_back a p i n = λ k. record { element = λ q j. same q j ((p == q) && (i == j)) refl k; size = λ q. a.size q; script = λ s. a.script s }
  where
    same : (q j : ℕ) (b : Bool) → ((p == q) && (i == j)) ≡ b → (if b then a.element p i else (if b then n else a.element q j)) ≡ a.element q j
    same q j true e = let two = and_parts (p == q) (i == j) e in λ k. a.element (eqb-true p q two.0 k) (eqb-true i j two.1 k)
    same q j false e = refl

-- the number that is there already
pub as_it_is : (a : Reading) (p i : ℕ) → with_number a p i (a.element p i) ≡ a
as_it_is a p i = λ k. record { element = λ q j. same q j ((p == q) && (i == j)) refl k; size = λ q. a.size q; script = λ s. a.script s }
  where
    same : (q j : ℕ) (b : Bool) → ((p == q) && (i == j)) ≡ b → (if b then a.element p i else a.element q j) ≡ a.element q j
    same q j true e = let two = and_parts (p == q) (i == j) e in λ k. a.element (eqb-true p q two.0 k) (eqb-true i j two.1 k)
    same q j false e = refl
