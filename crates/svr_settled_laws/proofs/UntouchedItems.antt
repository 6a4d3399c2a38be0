-- An unknown that no item mentions can take its wanted number whatever the others are, and keeps it.
use Rattle.std.proofs.Common.{◌≡◌, ◌≤◌, ◌==◌, ◌&&◌, ◌||◌, not, ℕ, Bool, true, false, cond, refl, sym, ap, ◌∙◌, subst, List, [], ◌∷◌, ◌++◌, map, arith, pos, ◌⊎◌, ⊎_elim, inl, inr}
use Rattle.std.specs.Prelude.{⊤, filter, if◌then◌else◌}
use Rattle.std.specs.List.{list_any, list_all, flat_map, All}
use Rattle.std.proofs.lemmas.Bool.{eqb-true, eq-eqb, and_parts}
use Rattle.std.proofs.lemmas.List.Folds.{list_any_at, list_any-append, list_all-append}
use Rattle.std.proofs.lemmas.List.Elements.{All-nil, All-cons, All-head, All-tail}
use Rattle.std.proofs.lemmas.List.Concat.{flat_map-cons}
use Rattle.svr_typed.specs.ExprTerm.{ExprTerm}
use Rattle.svr_eval.specs.Reading.{Reading}
use Rattle.svr_frame.specs.declared.part.Part.TheVariants.{All as Whole}
use Rattle.svr_frame.specs.declared.slot.Slot.{Slot}
use Rattle.svr_frame.specs.declared.slot.Slot.TheVariants.{Scalar, Element, Size}
use Rattle.svr_frame.specs.Frame.{FrameTerm, is_array, state_at}
use Rattle.svr_frame.specs.Occurrences.{Occurrence, is_true, all_true, is_hard, closed_of}
use Rattle.svr_frame.specs.Reads.{mentions, mentions_element}
use Rattle.svr_frame.specs.Phases.{unknowns_of, shape_at, sought_sizes, active_at, asked_of, is_soft_of, removes, live, domain_item, domain_items}
use Rattle.svr_frame.specs.Satisfaction.{is_at, value_at, IsAssignment, kept_of}
use Rattle.svr_frame.specs.Sound.{IsSound, SizesFit}
use Rattle.svr_frame_laws.proofs.Unmentioned.{unmentioned, none_of, not_true}
use Rattle.svr_frame_laws.proofs.Standing.{OccurrenceIsIn, AllAreIn, reads_are, active_in}
use Rattle.svr_encoded.specs.Encodes.{holds}
use Rattle.svr_phase.specs.Spent.{closed_at}
use Rattle.svr_phase.specs.declared.choice.Choice.{Choice}
use Rattle.svr_phase.specs.Cyclic.{fixed_of}
use Rattle.svr_phase.specs.Ends.{Call}
use Rattle.svr_phase.specs.Chosen.{AreCyclicValues}
use Rattle.svr_phase.proofs.ChosenValues.{with_none_fixed}
use Rattle.svr_phase.proofs.KeptItems.{both_hold}
use Rattle.svr_call.specs.Call.{hard_items, soft_items, mentions_unknown, is_unmentioned, preferred, OthersArePreferred}
use Rattle.svr_settled.specs.Steps.{with_number, with_wanted, hold, step, steps}
use Rattle.svr_settled.proofs.Stepped.{IsUnknown, in_size, wanted_is, step_is, still_hold}
use Rattle.svr_settled_laws.proofs.SlotKinds.{IsKind, kinds, IsLow, own_item}
use Rattle.svr_settled_laws.proofs.WishedMembers.{wished, wish_is}

-- ---- lists

all_mapped : {A B : Type 0} (g : B → Bool) (h : A → B) (xs : List A) → list_all g (map h xs) ≡ list_all (λ x. g (h x)) xs
all_mapped g h [] = refl
all_mapped g h (x ∷ xs) = ap (λ b. g (h x) && b) (all_mapped g h xs)

and_true : (b : Bool) → (b && true) ≡ b
and_true true = refl
and_true false = refl

kept_in : (f : FrameTerm) (g : Occurrence → Bool) (os : List Occurrence) → AllAreIn f os → AllAreIn f (filter g os)
kept_in f g [] h = tt
kept_in f g (o ∷ os) h = either (g o) (kept_in f g os h.1)
  where
    either : (b : Bool) → AllAreIn f (filter g os) → AllAreIn f (cond b (o ∷ filter g os) (filter g os))
    either true rest = (h.0, rest)
    either false rest = rest

in_append : (f : FrameTerm) (os ps : List Occurrence) → AllAreIn f os → AllAreIn f ps → AllAreIn f (os ++ ps)
in_append f [] ps h k = k
in_append f (o ∷ os) ps h k = (h.0, in_append f os ps h.1 k)

live_in : (f : FrameTerm) (ns : List ℕ) (os : List Occurrence) → AllAreIn f os → AllAreIn f (live f Whole ns os)
live_in f ns [] h = tt
live_in f ns (o ∷ os) h =
    in_append f (live f Whole ns os) (if is_soft_of f Whole ns o && not (list_any (λ d. removes f Whole ns d o) os) then o ∷ [] else []) (live_in f ns os h.1)
    (last (is_soft_of f Whole ns o && not (list_any (λ d. removes f Whole ns d o) os)))
  where
    last : (b : Bool) → AllAreIn f (if b then o ∷ [] else [])
    last true = (h.0, tt)
    last false = tt

fates_in : (f : FrameTerm) (os : List Occurrence) (fates : List Bool) → AllAreIn f os → AllAreIn f (kept_of os fates)
fates_in f [] fates h = tt
fates_in f (o ∷ os) [] h = tt
fates_in f (o ∷ os) (true ∷ fates) h = (h.0, fates_in f os fates h.1)
fates_in f (o ∷ os) (false ∷ fates) h = fates_in f os fates h.1

-- where none of a list passes a test, none of those that are kept does
none_kept : (t : Occurrence → Bool) (os : List Occurrence) (fates : List Bool) → list_any t os ≡ false → list_any t (kept_of os fates) ≡ false
none_kept t [] fates h = refl
none_kept t (o ∷ os) [] h = refl
none_kept t (o ∷ os) (true ∷ fates) h =
    let two = none_of (t o) (list_any t os) h in
    let here = two.0 in
    let rest = none_kept t os fates two.1 in
    λ k. here k || rest k
none_kept t (o ∷ os) (false ∷ fates) h = none_kept t os fates (none_of (t o) (list_any t os) h).1

-- ---- numbers

-- a wanted number at another place leaves one that is as wanted
number_kept : (wanted a : Reading) (q j p i : ℕ) → a.element p i ≡ wanted.element p i → (with_number a q j (wanted.element q j)).element p i ≡ wanted.element p i
number_kept wanted a q j p i h = by_test ((q == p) && (j == i)) refl
  where
    by_test : (b : Bool) → ((q == p) && (j == i)) ≡ b → (if b then wanted.element q j else a.element p i) ≡ wanted.element p i
    by_test true e = let two = and_parts (q == p) (j == i) e in λ k. wanted.element (eqb-true q p two.0 k) (eqb-true j i two.1 k)
    by_test false e = h

value_kept : (wanted a : Reading) (t s : Slot) → value_at a s ≡ value_at wanted s → value_at (with_wanted wanted a t) s ≡ value_at wanted s
value_kept wanted a (Scalar q) (Scalar p) h = number_kept wanted a q 0 p 0 h
value_kept wanted a (Scalar q) (Element p i) h = number_kept wanted a q 0 p i h
value_kept wanted a (Scalar q) (Size p) h = h
value_kept wanted a (Element q j) (Scalar p) h = number_kept wanted a q j p 0 h
value_kept wanted a (Element q j) (Element p i) h = number_kept wanted a q j p i h
value_kept wanted a (Element q j) (Size p) h = h
value_kept wanted a (Size q) s h = h

-- the wanted number is there
number_there : (a : Reading) (p i n : ℕ) → (with_number a p i n).element p i ≡ n
number_there a p i n = ap (λ b. if b then n else a.element p i) (λ k. eq-eqb p p refl k && eq-eqb i i refl k)

module _ (c : Call) (ns : List ℕ) (fates : List Bool) (sound : IsSound c.frame) (fit : SizesFit c.frame ns) (wanted : Reading) (is_wanted : IsAssignment c.frame Whole ns [] wanted) where
  abbrev f : FrameTerm
  f = c.frame

  -- the soft items that are kept
  abbrev kept : List Occurrence
  kept = kept_of (soft_items c ns) fates

  abbrev items : List ExprTerm
  items = closed_at c.frame ns (hard_items c ns ++ kept)

  abbrev IsFree : Slot → Type 0
  IsFree s = is_unmentioned c ns s ≡ true

  abbrev IsKnown : Slot → Type 0
  IsKnown s = IsKind c.frame s

  there : (a : Reading) (s : Slot) → IsKnown s → value_at (with_wanted wanted a s) s ≡ value_at wanted s
  there a (Scalar p) kind = number_there a p 0 (wanted.element p 0)
  there a (Element p i) kind = number_there a p i (wanted.element p i)
  there a (Size p) kind = absurd kind

  -- an unknown whose wanted number is in its domain where no item mentions it
  abbrev IsFit : Slot → Type 0
  IsFit s = IsKnown s × IsLow s × (IsFree s → all_true wanted (domain_item f s) ≡ true)

  abbrev AreFit : List Slot → Type 0
  AreFit [] = ⊤
  AreFit (s ∷ ss) = IsFit s × AreFit ss

  -- ---- what no item mentions does not matter to the items

  module _ (a : Reading) (o : Occurrence) where
    scalars : (s : Slot) → IsKnown s → mentions_unknown c ns o s ≡ false → (q : ℕ) → is_array f q ≡ false → mentions (shape_at f ns) q o ≡ true → (with_wanted wanted a s).element q 0 ≡ a.element q 0
    scalars (Scalar p) kind none q arr m = by_test (p == q) refl
      where
        by_test : (b : Bool) → (p == q) ≡ b → (if b && (0 == 0) then wanted.element p 0 else a.element q 0) ≡ a.element q 0
        by_test true e = absurd (let no : false ≡ true = sym none ∙ ap (λ x. mentions (shape_at f ns) x o) (eqb-true p q e) ∙ m in cc)
        by_test false e = refl
    scalars (Element p i) kind none q arr m = by_test (p == q) refl
      where
        by_test : (b : Bool) → (p == q) ≡ b → (if b && (i == 0) then wanted.element p i else a.element q 0) ≡ a.element q 0
        by_test true e = absurd (let no : true ≡ false = sym kind ∙ ap (is_array f) (eqb-true p q e) ∙ arr in cc)
        by_test false e = refl
    scalars (Size p) kind none q arr m = absurd kind

    elements : (s : Slot) → IsKnown s → mentions_unknown c ns o s ≡ false → (q j : ℕ) → is_array f q ≡ true → mentions_element (shape_at f ns) (sought_sizes f Whole) (state_at f ns) q (pos j) o ≡ true → (with_wanted wanted a s).element q j ≡ a.element q j
    elements (Scalar p) kind none q j arr m = by_test (p == q) refl
      where
        by_test : (b : Bool) → (p == q) ≡ b → (if b && (0 == j) then wanted.element p 0 else a.element q j) ≡ a.element q j
        by_test true e = absurd (let no : false ≡ true = sym kind ∙ ap (is_array f) (eqb-true p q e) ∙ arr in cc)
        by_test false e = refl
    elements (Element p i) kind none q j arr m = by_test ((p == q) && (i == j)) refl
      where
        by_test : (b : Bool) → ((p == q) && (i == j)) ≡ b → (if b then wanted.element p i else a.element q j) ≡ a.element q j
        by_test true e =
            let two = and_parts (p == q) (i == j) e in
            absurd (let no : false ≡ true = sym none ∙ (λ k. mentions_element (shape_at f ns) (sought_sizes f Whole) (state_at f ns) (eqb-true p q two.0 k) (pos (eqb-true i j two.1 k)) o) ∙ m in cc)
        by_test false e = refl
    elements (Size p) kind none q j arr m = absurd kind

  module _ (a : Reading) (is_a : IsAssignment c.frame Whole ns [] a) (s : Slot) (kind : IsKnown s) (unknown : IsUnknown c.frame ns sound fit s) where
    abbrev b : Reading
    b = with_wanted wanted a s

    is_b : IsAssignment c.frame Whole ns [] (with_wanted wanted a s)
    is_b = wanted_is c.frame ns sound fit wanted a is_wanted is_a s unknown

    one_same : (o : Occurrence) → OccurrenceIsIn f o → mentions_unknown c ns o s ≡ false → is_true b o ≡ is_true a o
    one_same o stands none =
        unmentioned f ns sound fit [] [] b a is_b is_a o (λ q r arr m. scalars a o s kind none q arr m) (λ q j r arr lt m. elements a o s kind none q j arr m) (reads_are f ns o stands)

    each_same : (os : List Occurrence) → AllAreIn f os → list_any (λ o. mentions_unknown c ns o s) os ≡ false → all_true b os ≡ all_true a os
    each_same [] h none = refl
    each_same (o ∷ os) h none =
        let two = none_of (mentions_unknown c ns o s) (list_any (λ x. mentions_unknown c ns x s) os) none in
        let here = one_same o h.0 two.0 in
        let rest = each_same os h.1 two.1 in
        λ k. here k && rest k

    -- no hard item mentions it, and no soft one
    untouched : IsFree s → (list_any (λ o. mentions_unknown c ns o s) (asked_of f Whole ns) ≡ false) × (list_any (λ o. mentions_unknown c ns o s) (soft_items c ns) ≡ false)
    untouched free =
        let none = not_true (list_any (λ o. mentions_unknown c ns o s) (asked_of f Whole ns ++ soft_items c ns)) free in
        none_of (list_any (λ o. mentions_unknown c ns o s) (asked_of f Whole ns)) (list_any (λ o. mentions_unknown c ns o s) (soft_items c ns)) (sym (list_any-append (λ o. mentions_unknown c ns o s) (asked_of f Whole ns) (soft_items c ns)) ∙ none)

    asked_same : IsFree s → all_true b (asked_of f Whole ns) ≡ all_true a (asked_of f Whole ns)
    asked_same free = each_same (asked_of f Whole ns) (kept_in f (λ o. is_hard o && true) (active_at f ns) (active_in f ns sound)) (untouched free).0

    kept_same : IsFree s → all_true b kept ≡ all_true a kept
    kept_same free =
        each_same kept (fates_in f (soft_items c ns) fates (live_in f ns (active_at f ns) (active_in f ns sound))) (none_kept (λ o. mentions_unknown c ns o s) (soft_items c ns) fates (untouched free).1)

    -- ---- the items of the unknowns themselves

    -- another unknown, or the same
    apart : (t : Slot) → IsKnown t → (s ≡ t) ⊎ (value_at b t ≡ value_at a t)
    apart t other = compare s t kind other
      where
        both_scalars : (p q : ℕ) (d : Bool) → (p == q) ≡ d → (Scalar p ≡ Scalar q) ⊎ ((if d && true then wanted.element p 0 else a.element q 0) ≡ a.element q 0)
        both_scalars p q true e = inl (ap Scalar (eqb-true p q e))
        both_scalars p q false e = inr refl

        both_elements : (p i q j : ℕ) (d : Bool) → ((p == q) && (i == j)) ≡ d → (Element p i ≡ Element q j) ⊎ ((if d then wanted.element p i else a.element q j) ≡ a.element q j)
        both_elements p i q j true e = let two = and_parts (p == q) (i == j) e in inl (λ k. Element (eqb-true p q two.0 k) (eqb-true i j two.1 k))
        both_elements p i q j false e = inr refl

        scalar_element : (p i q j : ℕ) (d : Bool) → (p == q) ≡ d → is_array f p ≡ false → is_array f q ≡ true → (if d && (i == j) then wanted.element p i else a.element q j) ≡ a.element q j
        scalar_element p i q j true e k l = absurd (let no : false ≡ true = sym k ∙ ap (is_array f) (eqb-true p q e) ∙ l in cc)
        scalar_element p i q j false e k l = refl

        element_scalar : (p i q j : ℕ) (d : Bool) → (p == q) ≡ d → is_array f p ≡ true → is_array f q ≡ false → (if d && (i == j) then wanted.element p i else a.element q j) ≡ a.element q j
        element_scalar p i q j true e k l = absurd (let no : true ≡ false = sym k ∙ ap (is_array f) (eqb-true p q e) ∙ l in cc)
        element_scalar p i q j false e k l = refl

        compare : (x t : Slot) → IsKnown x → IsKnown t → (x ≡ t) ⊎ (value_at (with_wanted wanted a x) t ≡ value_at a t)
        compare (Scalar p) (Scalar q) k l = both_scalars p q (p == q) refl
        compare (Scalar p) (Element q j) k l = inr (scalar_element p 0 q j (p == q) refl k l)
        compare (Element p i) (Scalar q) k l = inr (element_scalar p i q 0 (p == q) refl k l)
        compare (Element p i) (Element q j) k l = both_elements p i q j ((p == q) && (i == j)) refl
        compare (Size p) t k l = absurd k
        compare x (Size q) k l = absurd l

    one_item : IsFree s → (t : Slot) → IsKnown t → IsLow t → (IsFree t → all_true wanted (domain_item f t) ≡ true) → all_true a (domain_item f t) ≡ true → all_true b (domain_item f t) ≡ true
    one_item free t other low own before =
        ⊎_elim
        (λ same. own_item f ns sound fit b wanted is_b is_wanted t other low (subst (λ x. value_at (with_wanted wanted a x) t ≡ value_at wanted t) (sym same) (there a t other)) ∙ own (subst IsFree same free))
        (λ still. own_item f ns sound fit b a is_b is_a t other low still ∙ before)
        (apart t other)

    -- ---- all items of the unknowns, and the hard items

    parts : (r : Reading) (t : Slot) (ts : List Slot) → all_true r (flat_map (domain_item f) (t ∷ ts)) ≡ (all_true r (domain_item f t) && all_true r (flat_map (domain_item f) ts))
    parts r t ts = ap (all_true r) (flat_map-cons (domain_item f) t ts) ∙ list_all-append (is_true r) (domain_item f t) (flat_map (domain_item f) ts)

    all_items : IsFree s → (ts : List Slot) → AreFit ts → all_true a (flat_map (domain_item f) ts) ≡ true → all_true b (flat_map (domain_item f) ts) ≡ true
    all_items free [] good h = refl
    all_items free (t ∷ ts) good h =
        let two = and_parts (all_true a (domain_item f t)) (all_true a (flat_map (domain_item f) ts)) (sym (parts a t ts) ∙ h) in
        let here = one_item free t good.0.0 good.0.1 good.0.2 two.0 in
        let rest = all_items free ts good.1 two.1 in
        parts b t ts ∙ (λ k. here k && rest k)

    hard_parts : (r : Reading) → all_true r (hard_items c ns) ≡ (all_true r (domain_items f Whole ns) && all_true r (asked_of f Whole ns))
    hard_parts r =
        list_all-append (is_true r) (domain_items f Whole ns ++ []) (asked_of f Whole ns)
        ∙ ap (λ x. x && all_true r (asked_of f Whole ns)) (list_all-append (is_true r) (domain_items f Whole ns) [] ∙ and_true (all_true r (domain_items f Whole ns)))

    hard_kept : IsFree s → AreFit (unknowns_of f Whole ns) → all_true a (hard_items c ns) ≡ true → all_true b (hard_items c ns) ≡ true
    hard_kept free good h =
        let two = and_parts (all_true a (domain_items f Whole ns)) (all_true a (asked_of f Whole ns)) (sym (hard_parts a) ∙ h) in
        let here = all_items free (unknowns_of f Whole ns) good two.0 in
        let asked = asked_same free ∙ two.1 in
        hard_parts b ∙ (λ k. here k && asked k)

    -- with the soft items that are kept
    all_kept : IsFree s → AreFit (unknowns_of f Whole ns) → all_true a (hard_items c ns ++ kept) ≡ true → all_true b (hard_items c ns ++ kept) ≡ true
    all_kept free good h =
        let two = and_parts (all_true a (hard_items c ns)) (all_true a kept) (sym (list_all-append (is_true a) (hard_items c ns) kept) ∙ h) in
        let hard = hard_kept free good two.0 in
        let soft = kept_same free ∙ two.1 in
        list_all-append (is_true b) (hard_items c ns) kept ∙ (λ k. hard k && soft k)

  hold_is : (r : Reading) → IsAssignment c.frame Whole ns [] r → hold items r ≡ all_true r (hard_items c ns ++ kept)
  hold_is r is = all_mapped (λ e. holds r e) (closed_of (state_at f ns)) (hard_items c ns ++ kept) ∙ both_hold f Whole ns sound fit [] r is fates

  -- ---- all unknowns in turn

  abbrev AreUnknown : List Slot → Type 0
  AreUnknown [] = ⊤
  AreUnknown (s ∷ ss) = IsUnknown c.frame ns sound fit s × AreUnknown ss

  module _ (all : AreFit (unknowns_of c.frame Whole ns)) where
    taken : (a : Reading) (is_a : IsAssignment c.frame Whole ns [] a) (s : Slot) → IsKnown s → IsUnknown c.frame ns sound fit s → hold items a ≡ true → IsFree s → value_at (step items wanted a s) s ≡ value_at wanted s
    taken a is_a s kind u h free =
        let b = with_wanted wanted a s in
        let is_b = wanted_is c.frame ns sound fit wanted a is_wanted is_a s u in
        let still = all_kept a is_a s kind u free all (sym (hold_is a is_a) ∙ h) in
        ap (λ x. value_at (if x then with_wanted wanted a s else a) s) (hold_is (with_wanted wanted a s) is_b ∙ still) ∙ there a s kind

    keeps : (a : Reading) (t s : Slot) → value_at a s ≡ value_at wanted s → value_at (step items wanted a t) s ≡ value_at wanted s
    keeps a t s h = either (hold items (with_wanted wanted a t))
      where
        either : (x : Bool) → value_at (if x then with_wanted wanted a t else a) s ≡ value_at wanted s
        either true = value_kept wanted a t s h
        either false = h

    all_keep : (ss : List Slot) (a : Reading) (s : Slot) → value_at a s ≡ value_at wanted s → value_at (steps items wanted a ss) s ≡ value_at wanted s
    all_keep [] a s h = h
    all_keep (t ∷ ss) a s h = all_keep ss (step items wanted a t) s (keeps a t s h)

    all_taken : (ss : List Slot) (a : Reading) → IsAssignment c.frame Whole ns [] a → hold items a ≡ true → AreFit ss → AreUnknown ss → All (λ s. IsFree s → value_at (steps items wanted a ss) s ≡ value_at wanted s) ss
    all_taken [] a is_a h good us = All-nil (λ s. IsFree s → value_at (steps items wanted a []) s ≡ value_at wanted s)
    all_taken (s ∷ ss) a is_a h good us =
        All-cons (λ x. IsFree x → value_at (steps items wanted (step items wanted a s) ss) x ≡ value_at wanted x) s ss
        (λ free. all_keep ss (step items wanted a s) s (taken a is_a s good.0.0 us.0 h free))
        (all_taken ss (step items wanted a s) (step_is c.frame ns sound fit items wanted a is_wanted is_a s us.0) (still_hold items wanted a s h) good.1 us.1)

  -- ---- the unknowns of a frame

  unknown_at : All (IsUnknown c.frame ns sound fit) (unknowns_of c.frame Whole ns)
  unknown_at = λ k d lt p i h. list_any_at (is_at p i) (unknowns_of c.frame Whole ns) k d lt h

  are_unknown : (ss : List Slot) → All (IsUnknown c.frame ns sound fit) ss → AreUnknown ss
  are_unknown [] h = tt
  are_unknown (s ∷ ss) h = (All-head (IsUnknown c.frame ns sound fit) s ss h, are_unknown ss (All-tail (IsUnknown c.frame ns sound fit) s ss h))

  is_low : (s : Slot) → IsUnknown c.frame ns sound fit s → IsLow s
  is_low (Scalar p) u = tt
  is_low (Element p i) u = let lt = in_size c.frame ns sound fit p i (u p i (λ k. eq-eqb p p refl k && eq-eqb i i refl k)) in omega (arith, lt, fit.most p)
  is_low (Size p) u = tt

  are_fit : (ss : List Slot) → All (IsKind c.frame) ss → All (λ s. IsFree s → all_true wanted (domain_item f s) ≡ true) ss → AreUnknown ss → AreFit ss
  are_fit [] k own us = tt
  are_fit (s ∷ ss) k own us = (
    (All-head (IsKind c.frame) s ss k, is_low s us.0, All-head (λ x. IsFree x → all_true wanted (domain_item f x) ≡ true) s ss own),
    are_fit ss (All-tail (IsKind c.frame) s ss k) (All-tail (λ x. IsFree x → all_true wanted (domain_item f x) ≡ true) s ss own) us.1,
  )

  pub others : (found : Reading) → IsAssignment c.frame Whole ns [] found → all_true found (hard_items c ns ++ kept_of (soft_items c ns) fates) ≡ true
      → All (λ s. is_unmentioned c ns s ≡ true → all_true wanted (domain_item c.frame s) ≡ true) (unknowns_of c.frame Whole ns)
      → OthersArePreferred c ns wanted (steps (closed_at c.frame ns (hard_items c ns ++ kept_of (soft_items c ns) fates)) wanted found (unknowns_of c.frame Whole ns))
  others found is meets own =
      let us = are_unknown (unknowns_of c.frame Whole ns) unknown_at in
      let good = are_fit (unknowns_of c.frame Whole ns) (kinds c.frame ns sound) own us in
      all_taken good (unknowns_of c.frame Whole ns) found is (hold_is found is ∙ meets) good us

-- ---- preferred values

module _ (c : Call) (choices : List Choice) (ns : List ℕ) (sound : IsSound c.frame) (fit : SizesFit c.frame ns) (cyclic : AreCyclicValues c.frame (fixed_of choices)) where
  abbrev IsWished : Slot → Type 0
  IsWished s = is_unmentioned c ns s ≡ true → all_true (preferred c choices ns) (domain_item c.frame s) ≡ true

  all_wished : (ss : List Slot) → All (IsUnknown c.frame ns sound fit) ss → All (IsKind c.frame) ss → All IsWished ss
  all_wished [] u k = All-nil IsWished
  all_wished (s ∷ ss) u k =
      All-cons IsWished s ss (wished c choices ns sound fit cyclic s (All-head (IsUnknown c.frame ns sound fit) s ss u) (All-head (IsKind c.frame) s ss k))
      (all_wished ss (All-tail (IsUnknown c.frame ns sound fit) s ss u) (All-tail (IsKind c.frame) s ss k))

  pub others_preferred : (fates : List Bool) → c.cap ≤ 2048 → (found : Reading) → IsAssignment c.frame Whole ns (fixed_of choices) found → all_true found (hard_items c ns ++ kept_of (soft_items c ns) fates) ≡ true
      → OthersArePreferred c ns (preferred c choices ns) (steps (closed_at c.frame ns (hard_items c ns ++ kept_of (soft_items c ns) fates)) (preferred c choices ns) found (unknowns_of c.frame Whole ns))
  others_preferred fates le found is meets =
      let free = with_none_fixed c.frame Whole ns (fixed_of choices) in
      others c ns fates sound fit (preferred c choices ns) (free (preferred c choices ns) (wish_is c choices ns sound fit cyclic le)) found (free found is) meets
      (all_wished (unknowns_of c.frame Whole ns) (λ k d lt p i h. list_any_at (is_at p i) (unknowns_of c.frame Whole ns) k d lt h) (kinds c.frame ns sound))
