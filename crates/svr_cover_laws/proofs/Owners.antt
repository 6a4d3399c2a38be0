-- A counter that one item of a list has is counted at by that item alone
use Rattle.std.proofs.Common.{◌≡◌, ℕ, zero, suc, ◌+◌, ◌<◌, ◌≤◌, ◌&&◌, Bool, true, false, List, [], ◌∷◌, ◌++◌, length, Option, None, Some, nat_le, nat_lt, flat_map, refl, sym, ap, subst, ◌∙◌, arith, if◌then◌else◌}
use Rattle.std.specs.List.{All, sum_by, slice_get}
use Rattle.std.proofs.lemmas.Bool.{le-leb, lt-ltb, cases_lt}
use Rattle.std.proofs.Common.{⊎_elim}
use Rattle.std.proofs.lemmas.Option.{none-some, same_Some, slice_get_within, get_or_from_slice_get}
use Rattle.std.proofs.lemmas.List.Elements.{All-head, All-tail}
use Rattle.std.proofs.lemmas.List.Sums.{sum_by-cons, get_or-le-sum_by}
use Rattle.svr_cover_laws.specs.Parts.{one_of}
use Rattle.svr_cover_laws.proofs.Hits.{times}
use Rattle.svr_cover_laws.proofs.Standing.{AreBetween, times-append, times-low, times-high}

-- ---- the counters of one part

pub one_there : (first many i : ℕ) → first ≤ i → i < first + many → one_of first many i ≡ 1
one_there first many i a b = ap (λ t. if t && nat_lt i (first + many) then 1 else 0) (le-leb first i a) ∙ ap (λ t. if t then 1 else 0) (lt-ltb i (first + many) b)

-- what is counted at the counters of a part is not at any other
pub none_outside : (first many i : ℕ) (xs : List ℕ) → AreBetween first (first + many) xs → one_of first many i ≡ 0 → times i xs ≡ 0
none_outside first many i xs h e = ⊎_elim (λ l. times-low first (first + many) i xs l h) (λ l. above l) (cases_lt i first)
  where
    above : first ≤ i → times i xs ≡ 0
    above l =
        ⊎_elim (λ k. let o : one_of first many i ≡ 1 = one_there first many i l k in absurd (omega (arith, e, o))) (λ k. times-high first (first + many) i xs k h)
        (cases_lt i (first + many))

-- ---- one item of a list

module _ {A : Type 0} (i : ℕ) (w : A → ℕ) (f : A → List ℕ) where
  -- an item that has not the counter does not count there
  abbrev pub Keeps : A → Type 0
  Keeps x = w x ≡ 0 → times i (f x) ≡ 0

  pub weight_in : (xs : List A) (j : ℕ) (x : A) → slice_get xs j ≡ Some x → w x ≤ sum_by w xs
  weight_in xs j x e = subst (λ z. w z ≤ sum_by w xs) (get_or_from_slice_get xs j x x e) (get_or-le-sum_by w xs j x (slice_get_within xs j x e))

  pub none_there : (xs : List A) → All Keeps xs → sum_by w xs ≡ 0 → times i (flat_map f xs) ≡ 0
  none_there [] h e = refl
  none_there (x ∷ xs) h e =
      let c : sum_by w (x ∷ xs) ≡ w x + sum_by w xs = sum_by-cons w x xs in
      let a : times i (f x) ≡ 0 = All-head Keeps x xs h (omega (arith, c, e)) in
      let b : times i (flat_map f xs) ≡ 0 = none_there xs (All-tail Keeps x xs h) (omega (arith, c, e)) in
      times-append i (f x) (flat_map f xs) ∙ (let r : times i (f x) + times i (flat_map f xs) ≡ 0 = omega (arith, a, b) in r)

  pub that_one : (xs : List A) (j : ℕ) (x : A) → All Keeps xs → sum_by w xs ≤ 1 → slice_get xs j ≡ Some x → 1 ≤ w x → times i (flat_map f xs) ≡ times i (f x)
  that_one [] j x h s e l = absurd (none-some x e)
  that_one (y ∷ xs) zero x h s e l =
      let c : sum_by w (y ∷ xs) ≡ w y + sum_by w xs = sum_by-cons w y xs in
      let q : y ≡ x = same_Some y x e in
      let k : 1 ≤ w y = subst (λ z. 1 ≤ w z) (sym q) l in
      let b : times i (flat_map f xs) ≡ 0 = none_there xs (All-tail Keeps y xs h) (omega (arith, c, s, k)) in
      let a : times i (f y) ≡ times i (f x) = ap (λ z. times i (f z)) q in
      times-append i (f y) (flat_map f xs) ∙ (let r : times i (f y) + times i (flat_map f xs) ≡ times i (f x) = omega (arith, a, b) in r)
  that_one (y ∷ xs) (suc j) x h s e l =
      let c : sum_by w (y ∷ xs) ≡ w y + sum_by w xs = sum_by-cons w y xs in
      let k : w x ≤ sum_by w xs = weight_in xs j x e in
      let a : times i (f y) ≡ 0 = All-head Keeps y xs h (omega (arith, c, s, k, l)) in
      let b : times i (flat_map f xs) ≡ times i (f x) = that_one xs j x (All-tail Keeps y xs h) (omega (arith, c, s)) e l in
      times-append i (f y) (flat_map f xs) ∙ (let r : times i (f y) + times i (flat_map f xs) ≡ times i (f x) = omega (arith, a, b) in r)
