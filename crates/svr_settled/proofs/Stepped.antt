-- Wanted numbers taken one after the other: the items go on to hold, and the assignment goes on to be one of the phase.
use Rattle.std.proofs.Common.{◌≡◌, ◌<◌, ◌==◌, ◌+◌, ◌^◌, ◌&&◌, not, ℕ, zero, suc, Bool, true, false, refl, sym, ap, ◌∙◌, List, [], ◌∷◌, ◌++◌, length, map, take, get_or, arith, ⊎_elim}
use Rattle.std.specs.Prelude.{if◌then◌else◌, slice_index, slice_index_or}
use Rattle.std.specs.List.{list_any, All}
use Rattle.std.proofs.lemmas.Bool.{cases_lt, eqb-true, eq-eqb, and_parts}
use Rattle.std.proofs.lemmas.List.{take_more}
use Rattle.std.proofs.lemmas.List.Folds.{list_any_at}
use Rattle.std.proofs.lemmas.List.Elements.{All-head, All-tail}
use Rattle.svr_typed.specs.declared.class.Prop.{Prop}
use Rattle.svr_typed.specs.declared.class.EnumType.{EnumType}
use Rattle.svr_typed.specs.ExprTerm.{ExprTerm}
use Rattle.svr_eval.specs.declared.assign.Assign.{Assign}
use Rattle.svr_eval.specs.Reading.{Reading}
use Rattle.svr_frame.specs.declared.part.Part.TheVariants.{All as Whole}
use Rattle.svr_frame.specs.declared.slot.Slot.{Slot}
use Rattle.svr_frame.specs.declared.slot.Slot.TheVariants.{Scalar, Element, Size}
use Rattle.svr_frame.specs.Frame.{FrameTerm, is_scalar_kind, is_randc, is_scalar, is_random, is_cyclic, width_of, state_at}
use Rattle.svr_frame.specs.Phases.{unknowns_of}
use Rattle.svr_frame.specs.Satisfaction.{is_at, AllFit, AreFixed, IsAssignment}
use Rattle.svr_frame.specs.Sound.{IsProp, IsSound, SizesFit}
use Rattle.svr_frame_laws.proofs.Answers.{scalar_one}
use Rattle.svr_encoded.proofs.UnknownLemmas.{none_past}
use Rattle.svr_settled.specs.Steps.{with_number, with_wanted, hold, step_with, step, steps, IsWithin}
use Rattle.svr_settled.proofs.Placed.{put_back, as_it_is}

-- ---- one step

-- the wanted number is taken
pub taken : (items : List ExprTerm) (wanted a r : Reading) (p i n : ℕ) → r ≡ with_number a p i n → n ≡ wanted.element p i → hold items r ≡ true → r ≡ step_with items a (with_number a p i (wanted.element p i))
taken items wanted a r p i n is same h =
    let now : r ≡ with_number a p i (wanted.element p i) = is ∙ ap (with_number a p i) same in
    now ∙ sym (ap (λ c. if c then with_number a p i (wanted.element p i) else a) (ap (hold items) (sym now) ∙ h))

-- or the old one is put back
pub left : (items : List ExprTerm) (wanted a r s : Reading) (p i n m : ℕ) → r ≡ with_number a p i n → n ≡ wanted.element p i → hold items r ≡ false → s ≡ with_number r p i m → m ≡ a.element p i
    → s ≡ step_with items a (with_number a p i (wanted.element p i))
left items wanted a r s p i n m is same h back old =
    let now : r ≡ with_number a p i (wanted.element p i) = is ∙ ap (with_number a p i) same in
    back ∙ (λ k. with_number (now k) p i (old k)) ∙ put_back a p i (wanted.element p i) ∙ sym (ap (λ c. if c then with_number a p i (wanted.element p i) else a) (ap (hold items) (sym now) ∙ h))

-- a size stays
pub stays : (items : List ExprTerm) (a : Reading) → a ≡ step_with items a a
stays items a = either (hold items a)
  where
    either : (c : Bool) → a ≡ (if c then a else a)
    either true = refl
    either false = refl

-- the wanted number is there already
pub unchanged : (items : List ExprTerm) (wanted a : Reading) (p i n m : ℕ) → m ≡ n → n ≡ wanted.element p i → m ≡ a.element p i → a ≡ step_with items a (with_number a p i (wanted.element p i))
unchanged items wanted a p i n m equal same old =
    let here : a.element p i ≡ wanted.element p i = sym old ∙ equal ∙ same in
    let now : with_number a p i (wanted.element p i) ≡ a = ap (with_number a p i) (sym here) ∙ as_it_is a p i in
    stays items a ∙ ap (λ (b : Reading). step_with items a b) (sym now)

-- a property of both holds of the next one
next_one : (P : Reading → Type 0) (items : List ExprTerm) (a b : Reading) → P a → (hold items b ≡ true → P b) → P (step_with items a b)
next_one P items a b h k = either (hold items b) refl
  where
    either : (c : Bool) → hold items b ≡ c → P (if c then b else a)
    either true e = k e
    either false e = h

pub still_hold : (items : List ExprTerm) (wanted a : Reading) (s : Slot) → hold items a ≡ true → hold items (step items wanted a s) ≡ true
still_hold items wanted a s h = next_one (λ r. hold items r ≡ true) items a (with_wanted wanted a s) h (λ e. e)

-- ---- chosen values

-- a number that is fixed in both stays fixed
number_fixed : (f : FrameTerm) (wanted a : Reading) (p i : ℕ) (chosen : List (ℕ × ℕ)) → AreFixed f wanted chosen → AreFixed f a chosen → AreFixed f (with_number a p i (wanted.element p i)) chosen
number_fixed f wanted a p i [] h k = tt
number_fixed f wanted a p i (x ∷ chosen) h k = (by_place ((p == x.0) && (i == 0)) refl, number_fixed f wanted a p i chosen h.1 k.1)
  where
    by_place : (b : Bool) → ((p == x.0) && (i == 0)) ≡ b → (if b then wanted.element p i else a.element x.0 0) ≡ x.1
    by_place true e = let two = and_parts (p == x.0) (i == 0) e in (λ z. wanted.element (eqb-true p x.0 two.0 z) (eqb-true i 0 two.1 z)) ∙ h.0
    by_place false e = k.0

wanted_fixed : (f : FrameTerm) (wanted a : Reading) (s : Slot) (chosen : List (ℕ × ℕ)) → AreFixed f wanted chosen → AreFixed f a chosen → AreFixed f (with_wanted wanted a s) chosen
wanted_fixed f wanted a (Scalar p) chosen h k = number_fixed f wanted a p 0 chosen h k
wanted_fixed f wanted a (Element p i) chosen h k = number_fixed f wanted a p i chosen h k
wanted_fixed f wanted a (Size p) chosen h k = k

pub step_fixed : (f : FrameTerm) (items : List ExprTerm) (wanted a : Reading) (s : Slot) (chosen : List (ℕ × ℕ)) → AreFixed f wanted chosen → AreFixed f a chosen → AreFixed f (step items wanted a s) chosen
step_fixed f items wanted a s chosen h k = next_one (λ (r : Reading). AreFixed f r chosen) items a (with_wanted wanted a s) k (λ e. wanted_fixed f wanted a s chosen h k)

-- ---- all steps

steps_append : (items : List ExprTerm) (wanted a : Reading) (ss : List Slot) (s : Slot) → steps items wanted a (ss ++ s ∷ []) ≡ step items wanted (steps items wanted a ss) s
steps_append items wanted a [] s = refl
steps_append items wanted a (x ∷ ss) s = steps_append items wanted (step items wanted a x) ss s

-- as far as a loop over the slots has come
pub one_more : (items : List ExprTerm) (wanted a now next : Reading) (slots : List Slot) (k : ℕ) (d : Slot) → k < length slots → now ≡ steps items wanted a (take k slots) → next ≡ step items wanted now (get_or slots k d)
    → next ≡ steps items wanted a (take (k + 1) slots)
one_more items wanted a now next slots k d lt before after =
    after ∙ ap (λ r. step items wanted r (get_or slots k d)) before ∙ sym (steps_append items wanted a (take k slots) (get_or slots k d)) ∙ sym (ap (steps items wanted a) (take_more slots k d lt))

-- ---- places of the unknowns

-- a cyclic property is a scalar (18.4.2)
cyclic_scalar : (ts : List EnumType) (props : List Prop) (q : ℕ) → All (IsProp ts) props → slice_index_or (map (λ (x : Prop). is_randc x.rand) props) q false ≡ true → slice_index_or (map (λ (x : Prop). is_scalar_kind x.array) props) q false ≡ true
cyclic_scalar ts [] q a h = cc
cyclic_scalar ts (x ∷ props) zero a h = (All-head (IsProp ts) x props a).cyclic h
cyclic_scalar ts (x ∷ props) (suc q) a h = cyclic_scalar ts props q (All-tail (IsProp ts) x props a) h

module _ (f : FrameTerm) (ns : List ℕ) (sound : IsSound f) (fit : SizesFit f ns) where
  abbrev slots : List Slot
  slots = unknowns_of f Whole ns

  scalar_size : (q : ℕ) → is_scalar f q ≡ true → 0 < slice_index ns q
  scalar_size q h = let one : slice_index ns q ≡ 1 = scalar_one f ns sound fit q (ap not h) in omega (arith, one)

  cyclic_size : (q : ℕ) → is_cyclic f q ≡ true → 0 < slice_index ns q
  cyclic_size q h = scalar_size q (cyclic_scalar f.enums f.class.props q sound.props (and_parts (is_random f q) (slice_index_or (map (λ (x : Prop). is_randc x.rand) f.class.props) q false) h).1)

  -- an unknown is at a place that its property has
  pub in_size : (p i : ℕ) → list_any (is_at p i) slots ≡ true → i < slice_index ns p
  in_size p i h = ⊎_elim (λ lt. lt) (λ le. absurd (let no : true ≡ false = sym h ∙ none_past f ns cyclic_size scalar_size p i le Whole in cc)) (cases_lt i (slice_index ns p))

  at_scalar : (p : ℕ) → is_at p 0 (Scalar p) ≡ true
  at_scalar p = λ k. eq-eqb p p refl k && true

  at_element : (p i : ℕ) → is_at p i (Element p i) ≡ true
  at_element p i = λ k. eq-eqb p p refl k && eq-eqb i i refl k

  -- a slot of the unknowns
  abbrev pub IsUnknown : Slot → Type 0
  IsUnknown s = (p i : ℕ) → is_at p i s ≡ true → list_any (is_at p i) (unknowns_of f Whole ns) ≡ true

  pub is_unknown : (ss : List Slot) (k : ℕ) (d : Slot) → ss ≡ unknowns_of f Whole ns → k < length ss → (p i : ℕ) → is_at p i (get_or ss k d) ≡ true → list_any (is_at p i) (unknowns_of f Whole ns) ≡ true
  is_unknown ss k d are lt p i h = sym (ap (list_any (is_at p i)) are) ∙ list_any_at (is_at p i) ss k d lt h

  pub is_within : (a : Assign) (s : Slot) → ((p : ℕ) → length (slice_index_or a.values p []) ≡ slice_index ns p) → IsUnknown s → IsWithin a s
  is_within a (Scalar p) long u = let lt = in_size p 0 (u p 0 (at_scalar p)) in let l = long p in omega (arith, lt, l)
  is_within a (Element p i) long u = let lt = in_size p i (u p i (at_element p i)) in let l = long p in omega (arith, lt, l)
  is_within a (Size p) long u = tt

  -- ---- an assignment with a wanted number

  module _ (wanted a : Reading) (is_wanted : IsAssignment f Whole ns [] wanted) (is_a : IsAssignment f Whole ns [] a) (p i : ℕ) (unknown : list_any (is_at p i) (unknowns_of f Whole ns) ≡ true) where
    abbrev b : Reading
    b = with_number a p i (wanted.element p i)

    number_fits : (q j : ℕ) (c : Bool) → ((p == q) && (i == j)) ≡ c → wanted.element q j < 2 ^ width_of f q → a.element q j < 2 ^ width_of f q → (if c then wanted.element p i else a.element q j) < 2 ^ width_of f q
    number_fits q j true e h k =
        let two = and_parts (p == q) (i == j) e in
        let same : wanted.element p i ≡ wanted.element q j = λ x. wanted.element (eqb-true p q two.0 x) (eqb-true i j two.1 x) in
        omega (arith, same, h)
    number_fits q j false e h k = k

    all_fit : (ss : List Slot) → AllFit f wanted ss → AllFit f a ss → AllFit f b ss
    all_fit [] h k = tt
    all_fit (Scalar q ∷ ss) h k = (number_fits q 0 ((p == q) && (i == 0)) refl h.0 k.0, all_fit ss h.1 k.1)
    all_fit (Element q j ∷ ss) h k = (number_fits q j ((p == q) && (i == j)) refl h.0 k.0, all_fit ss h.1 k.1)
    all_fit (Size q ∷ ss) h k = (k.0, all_fit ss h.1 k.1)

    kept : (q j : ℕ) (c : Bool) → ((p == q) && (i == j)) ≡ c → list_any (is_at q j) (unknowns_of f Whole ns) ≡ false → (if c then wanted.element p i else a.element q j) ≡ (state_at f ns).element q j
    kept q j true e none =
        let two = and_parts (p == q) (i == j) e in
        let no : true ≡ false = sym unknown ∙ (λ x. list_any (is_at (eqb-true p q two.0 x) (eqb-true i j two.1 x)) (unknowns_of f Whole ns)) ∙ none in absurd (cc)
    kept q j false e none = is_a.same_numbers q j none

    number_is_assignment : IsAssignment f Whole ns [] (with_number a p i (wanted.element p i))
    number_is_assignment = record {
      fits = all_fit (unknowns_of f Whole ns) is_wanted.fits is_a.fits;
      same_numbers = λ q j none. kept q j ((p == q) && (i == j)) refl none;
      same_sizes = is_a.same_sizes;
      same_script = is_a.same_script;
      chosen = tt;
    }

  pub wanted_is : (wanted a : Reading) → IsAssignment f Whole ns [] wanted → IsAssignment f Whole ns [] a → (s : Slot) → IsUnknown s → IsAssignment f Whole ns [] (with_wanted wanted a s)
  wanted_is wanted a h k (Scalar p) u = number_is_assignment wanted a h k p 0 (u p 0 (at_scalar p))
  wanted_is wanted a h k (Element p i) u = number_is_assignment wanted a h k p i (u p i (at_element p i))
  wanted_is wanted a h k (Size p) u = k

  pub step_is : (items : List ExprTerm) (wanted a : Reading) → IsAssignment f Whole ns [] wanted → IsAssignment f Whole ns [] a → (s : Slot) → IsUnknown s → IsAssignment f Whole ns [] (step items wanted a s)
  step_is items wanted a h k s u = next_one (IsAssignment f Whole ns []) items a (with_wanted wanted a s) k (λ e. wanted_is wanted a h k s u)
