-- Bins of ranges in parts
use Rattle.std.proofs.Common.{◌≡◌, ℕ, suc, ◌+◌, ◌^◌, ◌<◌, ◌≤◌, Option, None, Some, Bool, true, false, ◌&&◌, ◌||◌, nat_le, nat_lt, List, [], ◌∷◌, ◌++◌, length, refl, sym, ap, subst, ◌∙◌, append_assoc, append-nil, arith, if◌then◌else◌}
use Rattle.std.specs.Prelude.{SomeIff}
use Rattle.std.specs.List.{list_any}
use Rattle.std.proofs.lemmas.List.{nil_from_length}
use Rattle.std.proofs.lemmas.Bool.{ltb-true, ltb-false, leb-true, leb-false, le-leb, lt-leb}
use Rattle.svr_cover_steps.specs.declared.steps.Step.{Step}
use Rattle.svr_cover_steps.specs.Steps.{bins_at, IsRising}
use Rattle.svr_cover_union.specs.declared.ranges.Range.{Range}
use Rattle.svr_cover_union.specs.Union.{range_has, hits_of, hits_from, joined, opened, closed}

-- of a bin whose ranges stand in two parts
pub hits_ranges : (n : ℕ) (xs ys : List Range) (v : ℕ) → hits_of n (xs ++ ys) v ≡ joined true (hits_of n xs v) (hits_of n ys v)
hits_ranges n [] ys v = refl
hits_ranges n (x ∷ xs) ys v = go (range_has v x) (hits_ranges n xs ys v)
  where
    go : (b : Bool) → hits_of n (xs ++ ys) v ≡ joined true (hits_of n xs v) (hits_of n ys v)
        → (if b || list_any (range_has v) (xs ++ ys) then n ∷ [] else []) ≡ joined true (if b || list_any (range_has v) xs then n ∷ [] else []) (hits_of n ys v)
    go true h = refl
    go false h = h

-- of bins that stand in two parts
pub hits_bins : (n : ℕ) (xs ys : List (List Range)) (v : ℕ) → hits_from n (xs ++ ys) v ≡ hits_from n xs v ++ hits_from (n + length xs) ys v
hits_bins n [] ys v = ap (λ k. hits_from k ys v) (let e : n ≡ n + 0 = omega arith in e)
hits_bins n (x ∷ xs) ys v =
    ap (λ z. hits_of n x v ++ z) (hits_bins (suc n) xs ys v ∙ ap (λ k. hits_from (suc n) xs v ++ hits_from k ys v) (let e : suc n + length xs ≡ n + suc (length xs) = omega arith in e))
    ∙ sym (append_assoc (hits_of n x v) (hits_from (suc n) xs v) (hits_from (n + suc (length xs)) ys v))

-- of one bin alone
pub hits_one : (n : ℕ) (xs : List Range) (v : ℕ) → hits_from n (xs ∷ []) v ≡ hits_of n xs v
hits_one n xs v = append-nil (hits_of n xs v)

-- ---- one range

no-hit : (n v : ℕ) (r : Range) → range_has v r ≡ false → hits_of n (r ∷ []) v ≡ []
no-hit n v r h = ap (λ b. if b || false then n ∷ [] else []) h

hit : (n v : ℕ) (r : Range) → range_has v r ≡ true → hits_of n (r ∷ []) v ≡ n ∷ []
hit n v r h = ap (λ b. if b || false then n ∷ [] else []) h

has-low : (v : ℕ) (r : Range) → v < r.low → range_has v r ≡ false
has-low v r h = ap (λ b. b && nat_le v r.high) (lt-leb r.low v h)

and-false : (b : Bool) → (b && false) ≡ false
and-false true = refl
and-false false = refl

has-high : (v : ℕ) (r : Range) → r.high < v → range_has v r ≡ false
has-high v r h = ap (λ b. nat_le r.low v && b) (lt-leb v r.high h) ∙ and-false (nat_le r.low v)

has-both : (v : ℕ) (r : Range) → r.low ≤ v → v ≤ r.high → range_has v r ≡ true
has-both v r a b = ap (λ z. z && nat_le v r.high) (le-leb r.low v a) ∙ le-leb v r.high b

-- a range without values
pub empty_range : (n v : ℕ) (r : Range) → r.high < r.low → [] ≡ hits_of n (r ∷ []) v
empty_range n v r h = go (nat_lt v r.low) refl
  where
    go : (b : Bool) → nat_lt v r.low ≡ b → [] ≡ hits_of n (r ∷ []) v
    go true e = sym (no-hit n v r (has-low v r (ltb-true v r.low e)))
    go false e = let l : r.low ≤ v = ltb-false v r.low e in sym (no-hit n v r (has-high v r (omega (arith, l, h))))

-- from its lower bound on, where no value is above its upper one
pub open_range : (n v : ℕ) (r : Range) → v ≤ r.high → bins_at (opened r.low n) v ≡ hits_of n (r ∷ []) v
open_range n v r h = go (nat_le r.low v) refl
  where
    go : (b : Bool) → nat_le r.low v ≡ b → (if b then n ∷ [] else []) ≡ hits_of n (r ∷ []) v
    go true e = sym (hit n v r (has-both v r (leb-true r.low v e) h))
    go false e = sym (no-hit n v r (has-low v r (leb-false r.low v e)))

-- from its lower bound up to its upper one
pub closed_range : (n v : ℕ) (r : Range) (end : ℕ) → r.low ≤ r.high → end ≡ r.high + 1 → bins_at (closed r.low end n) v ≡ hits_of n (r ∷ []) v
closed_range n v r end le e = go (nat_le r.low v) refl
  where
    there : (b : Bool) → nat_le end v ≡ b → r.low ≤ v → (if b then [] else n ∷ []) ≡ hits_of n (r ∷ []) v
    there true f l = let m : end ≤ v = leb-true end v f in sym (no-hit n v r (has-high v r (omega (arith, e, m))))
    there false f l = let m : v < end = leb-false end v f in sym (hit n v r (has-both v r l (omega (arith, e, m))))

    go : (b : Bool) → nat_le r.low v ≡ b → (if b then (if nat_le end v then [] else n ∷ []) else []) ≡ hits_of n (r ∷ []) v
    go true f = there (nat_le end v) refl (leb-true r.low v f)
    go false f = sym (no-hit n v r (has-low v r (leb-false r.low v f)))

pub rising_closed : (low end n : ℕ) → low < end → IsRising (closed low end n)
rising_closed low end n h = ((h, tt), (tt, tt))

pub rising_opened : (low n : ℕ) → IsRising (opened low n)
rising_opened low n = (tt, tt)

-- the end of a range that has one, and a range that has none
pub end_is : (o : Option ℕ) (n end : ℕ) → SomeIff o (n + 1 < 2 ^ 64) (n + 1) → o ≡ Some end → end ≡ n + 1
end_is o n end h e = let k : (n + 1 < 2 ^ 64) × (end ≡ n + 1) = subst (λ z. SomeIff z (n + 1 < 2 ^ 64) (n + 1)) e h in k.1

pub is_last : (o : Option ℕ) (n v : ℕ) → SomeIff o (n + 1 < 2 ^ 64) (n + 1) → o ≡ None → v < 2 ^ 64 → v ≤ n
is_last o n v h e lt = go (nat_lt (n + 1) (2 ^ 64)) refl (subst (λ z. SomeIff z (n + 1 < 2 ^ 64) (n + 1)) e h)
  where
    go : (b : Bool) → nat_lt (n + 1) (2 ^ 64) ≡ b → ((n + 1 < 2 ^ 64) → ⊥) → v ≤ n
    go true f k = absurd (k (ltb-true (n + 1) (2 ^ 64) f))
    go false f k = let l : 2 ^ 64 ≤ n + 1 = ltb-false (n + 1) (2 ^ 64) f in omega (arith, l, lt)

-- ---- lists of at most one

none-hit : (n v : ℕ) (ranges : List Range) → length ranges ≡ 0 → hits_of n ranges v ≡ []
none-hit n v ranges l = ap (λ z. hits_of n z v) (nil_from_length ranges l)

alone : {X : Type 0} (xs : List X) (x : X) (others : List X) → xs ≡ x ∷ others → length xs < 2 → xs ≡ x ∷ []
alone xs x others e l =
    let k : length xs ≡ suc (length others) = ap length e in
    e ∙ ap (λ z. x ∷ z) (nil_from_length others (omega (arith, k, l)))

pub nothing_of : (n v : ℕ) (ranges : List Range) (r : List Step) → r ≡ [] → length ranges ≡ 0 → bins_at r v ≡ hits_of n ranges v
nothing_of n v ranges r e l = ap (λ z. bins_at z v) e ∙ sym (none-hit n v ranges l)

pub range_of : (n v : ℕ) (ranges : List Range) (x : Range) (others : List Range) → ranges ≡ x ∷ others → length ranges < 2 → hits_of n (x ∷ []) v ≡ hits_of n ranges v
range_of n v ranges x others e l = ap (λ z. hits_of n z v) (sym (alone ranges x others e l))

pub nothing_from : (n v : ℕ) (bins : List (List Range)) (r : List Step) → r ≡ [] → length bins ≡ 0 → bins_at r v ≡ hits_from n bins v
nothing_from n v bins r e l = ap (λ z. bins_at z v) e ∙ ap (λ z. hits_from n z v) (sym (nil_from_length bins l))

pub bin_from : (n v : ℕ) (bins : List (List Range)) (x : List Range) (others : List (List Range)) → bins ≡ x ∷ others → length bins < 2 → hits_of n x v ≡ hits_from n bins v
bin_from n v bins x others e l = sym (hits_one n x v) ∙ ap (λ z. hits_from n z v) (sym (alone bins x others e l))

-- ---- two halves

pub halves_ranges : (n v : ℕ) (ranges front back : List Range) (r x y : List Step) → ranges ≡ front ++ back
    → bins_at x v ≡ hits_of n front v → bins_at y v ≡ hits_of n back v → bins_at r v ≡ joined true (bins_at x v) (bins_at y v) → bins_at r v ≡ hits_of n ranges v
halves_ranges n v ranges front back r x y w a b e =
    e ∙ ap (λ z. joined true z (bins_at y v)) a ∙ ap (joined true (hits_of n front v)) b ∙ sym (hits_ranges n front back v) ∙ ap (λ z. hits_of n z v) (sym w)

pub halves_bins : (n m v : ℕ) (bins front back : List (List Range)) (r x y : List Step) → bins ≡ front ++ back
    → bins_at x v ≡ hits_from n front v → bins_at y v ≡ hits_from m back v → bins_at r v ≡ joined false (bins_at x v) (bins_at y v) → m ≡ n + length front → bins_at r v ≡ hits_from n bins v
halves_bins n m v bins front back r x y w a b e l =
    e ∙ ap (λ z. z ++ bins_at y v) a ∙ ap (λ z. hits_from n front v ++ z) (b ∙ ap (λ z. hits_from z back v) l) ∙ sym (hits_bins n front back v) ∙ ap (λ z. hits_from n z v) (sym w)
