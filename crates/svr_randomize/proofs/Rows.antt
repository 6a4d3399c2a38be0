-- Lists of numbers that are compared row by row, or copied.
use Rattle.std.proofs.Common.{◌≡◌, ◌<◌, ◌≤◌, ◌+◌, ℕ, zero, suc, Bool, true, false, refl, sym, ◌∙◌, ap, subst, List, [], ◌∷◌, ◌++◌, length, arith}
use Rattle.std.specs.Prelude.{nat_eq, nat_lt, slice_index_or}
use Rattle.std.specs.Cmp.Lexicographic.{pointwise}
use Rattle.std.proofs.lemmas.Bool.{and_parts, eqb-true, ltb-true, ltb-false}

-- lists that are told to be the same are the same
pub same_if_told : (xs ys : List ℕ) → pointwise nat_eq xs ys ≡ true → xs ≡ ys
same_if_told [] [] h = refl
same_if_told [] (y ∷ ys) h = cc
same_if_told (x ∷ xs) [] h = cc
same_if_told (x ∷ xs) (y ∷ ys) h =
    let two = and_parts (nat_eq x y) (pointwise nat_eq xs ys) h in
    λ j. eqb-true x y two.0 j ∷ same_if_told xs ys two.1 j

-- behind the end there is no row
no_row : (rows : List (List ℕ)) (p : ℕ) → length rows ≤ p → slice_index_or rows p [] ≡ []
no_row [] p le = refl
no_row (r ∷ rows) zero le = absurd (omega (arith, le))
no_row (r ∷ rows) (suc p) le = no_row rows p (omega (arith, le))

front_row : (rows : List (List ℕ)) (x : List ℕ) (p : ℕ) → p < length rows → slice_index_or (rows ++ x ∷ []) p [] ≡ slice_index_or rows p []
front_row [] x p lt = absurd (omega (arith, lt))
front_row (r ∷ rows) x zero lt = refl
front_row (r ∷ rows) x (suc p) lt = front_row rows x p (omega (arith, lt))

last_row : (rows : List (List ℕ)) (x : List ℕ) (p : ℕ) → p ≡ length rows → slice_index_or (rows ++ x ∷ []) p [] ≡ x
last_row [] x zero e = refl
last_row [] x (suc p) e = absurd (omega (arith, e))
last_row (r ∷ rows) x zero e = absurd (omega (arith, e))
last_row (r ∷ rows) x (suc p) e = last_row rows x p (omega (arith, e))

module _ (random : List Bool) (rows : List (List ℕ)) where
  -- of the first so many properties those that are not random have the same row
  abbrev pub AreSameBelow : ℕ → List (List ℕ) → Type 0
  AreSameBelow n others = (p : ℕ) → p < n → slice_index_or random p false ≡ false → slice_index_or rows p [] ≡ slice_index_or others p []

  abbrev pub AreSameRows : List (List ℕ) → Type 0
  AreSameRows others = (p : ℕ) → slice_index_or random p false ≡ false → slice_index_or rows p [] ≡ slice_index_or others p []

  pub none_yet : (others : List (List ℕ)) → AreSameBelow 0 others
  none_yet others p lt h = absurd (omega (arith, lt))

  -- one more
  pub one_more : (n : ℕ) (others : List (List ℕ)) → AreSameBelow n others → (slice_index_or random n false ≡ false → slice_index_or rows n [] ≡ slice_index_or others n []) → AreSameBelow (n + 1) others
  one_more n others before next p lt h = by_place (nat_lt p n) refl
    where
      by_place : (b : Bool) → nat_lt p n ≡ b → slice_index_or rows p [] ≡ slice_index_or others p []
      by_place true e = before p (ltb-true p n e) h
      by_place false e =
          let here : n ≡ p = omega (arith, lt, ltb-false p n e) in
          subst (λ (q : ℕ). slice_index_or random q false ≡ false → slice_index_or rows q [] ≡ slice_index_or others q []) here next h

  -- all of them
  pub all_same : (others : List (List ℕ)) → length rows ≡ length others → (n : ℕ) → length rows ≤ n → AreSameBelow n others → AreSameRows others
  all_same others long n le below p h = by_place (nat_lt p n) refl
    where
      by_place : (b : Bool) → nat_lt p n ≡ b → slice_index_or rows p [] ≡ slice_index_or others p []
      by_place true e = below p (ltb-true p n e) h
      by_place false e = no_row rows p (omega (arith, le, ltb-false p n e)) ∙ sym (no_row others p (omega (arith, long, le, ltb-false p n e)))

  -- a list that grows
  pub pushed : (n : ℕ) (old new : List (List ℕ)) (row : List ℕ) → length old ≡ n → AreSameBelow n old → (slice_index_or random n false ≡ false → row ≡ slice_index_or rows n []) → new ≡ old ++ row ∷ [] → AreSameBelow (n + 1) new
  pushed n old new row long before next is p lt h = by_place (nat_lt p n) refl
    where
      by_place : (b : Bool) → nat_lt p n ≡ b → slice_index_or rows p [] ≡ slice_index_or new p []
      by_place true e = before p (ltb-true p n e) h ∙ sym (ap (λ (xs : List (List ℕ)). slice_index_or xs p []) is ∙ front_row old row p (omega (arith, long, ltb-true p n e)))
      by_place false e =
          let here : n ≡ p = omega (arith, lt, ltb-false p n e) in
          subst (λ (q : ℕ). slice_index_or rows q [] ≡ slice_index_or new q []) here
          (sym (ap (λ (xs : List (List ℕ)). slice_index_or xs n []) is ∙ last_row old row n (sym long) ∙ next (subst (λ (q : ℕ). slice_index_or random q false ≡ false) (sym here) h)))
