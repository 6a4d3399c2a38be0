-- The preferred assignment with the chosen cyclic values in their places is an assignment of the last phase that has them.
use Rattle.std.proofs.Common.{◌≡◌, ◌<◌, ◌≤◌, ◌==◌, ◌+◌, ◌^◌, ℕ, zero, suc, Bool, true, false, not, ◌&&◌, ◌||◌, refl, sym, ◌∙◌, ap, subst, List, [], ◌∷◌, ◌++◌, map, length, arith}
use Rattle.std.specs.Prelude.{⊤, filter, nat_lt, slice_index, slice_index_or, if◌then◌else◌}
use Rattle.std.specs.List.{list_any, range_with_len}
use Rattle.std.proofs.lemmas.Bool.{eq-eqb, eqb-true, ne_eqb, and_parts, ltb-true, ltb-false}
use Rattle.std.proofs.lemmas.List.Folds.{list_any-append}
use Rattle.svr_limits.specs.declared.limit.TheConstants.{ELEMENT_LIMIT}
use Rattle.svr_typed.specs.declared.class.ArrayKind.{ArrayKind}
use Rattle.svr_typed.specs.declared.class.ArrayKind.TheVariants as array
use Rattle.svr_typed.specs.declared.class.Prop.{Prop}
use Rattle.svr_eval.specs.Reading.{Reading}
use Rattle.svr_frame.specs.declared.part.Part.TheVariants.{Randc, All}
use Rattle.svr_frame.specs.declared.slot.Slot.{Slot}
use Rattle.svr_frame.specs.declared.slot.Slot.TheVariants.{Scalar, Element, Size}
use Rattle.svr_frame.specs.Frame.{FrameTerm, props_of, is_cyclic, width_of, state_at}
use Rattle.svr_frame.specs.Phases.{cyclic_slots, scalar_slots, element_slots, unknowns_of}
use Rattle.svr_frame.specs.Satisfaction.{is_at, is_size_of, AllFit, AreFixed, IsAssignment}
use Rattle.svr_frame.specs.Sound.{SizeIsOf, IsSound, SizesFit}
use Rattle.svr_frame_laws.proofs.Answers.{any_prop}
use Rattle.svr_frame_laws.proofs.Readable.{number_fits}
use Rattle.svr_frame_laws.proofs.Unmentioned.{none_of}
use Rattle.svr_draw.specs.Preferred.{number_in, size_in, reading_with, preferred_of}
use Rattle.svr_draw.proofs.Fits.{preferred_is}
use Rattle.svr_phase.specs.declared.choice.Choice.{Choice}
use Rattle.svr_phase.specs.Cyclic.{Cycles, fixed_of, AreChosen}
use Rattle.svr_phase.specs.Sizes.{words_after, preferred_with}
use Rattle.svr_phase.specs.Ends.{cyclic_props}
use Rattle.svr_phase.proofs.Fresh.{chosen_props}

-- ---- the sizes of the state

kind_limit : (k : ArrayKind) (n : ℕ) → SizeIsOf k n → n ≤ ELEMENT_LIMIT
kind_limit array.Scalar n h = omega (arith, h)
kind_limit (array.Fixed m) n h = h.1
kind_limit array.Dynamic n h = h

pub past_end : (ns : List ℕ) (p : ℕ) → length ns ≤ p → slice_index ns p ≡ 0
past_end [] p le = refl
past_end (n ∷ ns) zero le = absurd (omega (arith, le))
past_end (n ∷ ns) (suc p) le = past_end ns p (omega (arith, le))

pub state_sizes_fit : (f : FrameTerm) → IsSound f → SizesFit f f.state.sizes
state_sizes_fit f sound = record { long = sound.state.sizes; most = λ p. limit p; same = λ p h. refl }
  where
    limit : (p : ℕ) → slice_index f.state.sizes p ≤ ELEMENT_LIMIT
    limit p = by_place (nat_lt p (length f.class.props)) refl
      where
        by_place : (b : Bool) → nat_lt p (length f.class.props) ≡ b → slice_index f.state.sizes p ≤ ELEMENT_LIMIT
        by_place true e = let lt = ltb-true p (length f.class.props) e in kind_limit (slice_index_or f.class.props p any_prop).array (slice_index f.state.sizes p) (sound.state.of_kind p any_prop lt)
        by_place false e = let ge = ltb-false p (length f.class.props) e in let none = past_end f.state.sizes p (omega (arith, ge, sound.state.sizes)) in omega (arith, none)

-- ---- numbers at scalar places

abbrev pub slots_with : List (ℕ × ℕ) → List (Slot × ℕ)
slots_with fixed = map (λ c. (Scalar c.0, c.1)) fixed

module _ (f : FrameTerm) where
  abbrev pub AllBelow : List (ℕ × ℕ) → Type 0
  AllBelow [] = ⊤
  AllBelow (x ∷ xs) = (x.1 < 2 ^ width_of f x.0) × AllBelow xs

  below_in : (fixed : List (ℕ × ℕ)) → AllBelow fixed → (p i other : ℕ) → other < 2 ^ width_of f p → number_in (slots_with fixed) p i other < 2 ^ width_of f p
  below_in [] h p i other lt = lt
  below_in (x ∷ xs) h p i other lt = by_test (is_at p i (Scalar x.0)) refl (below_in xs h.1 p i other lt)
    where
      by_test : (b : Bool) → is_at p i (Scalar x.0) ≡ b → number_in (slots_with xs) p i other < 2 ^ width_of f p → number_in (slots_with (x ∷ xs)) p i other < 2 ^ width_of f p
      by_test true e rest = rw e (subst (λ (q : ℕ). x.1 < 2 ^ width_of f q) (eqb-true x.0 p (and_parts (x.0 == p) (i == 0) e).0) h.0)
      by_test false e rest = rw e rest

pub same_sizes_in : (fixed : List (ℕ × ℕ)) (p other : ℕ) → size_in (slots_with fixed) p other ≡ other
same_sizes_in [] p other = refl
same_sizes_in (x ∷ xs) p other = same_sizes_in xs p other

pub same_number_in : (fixed : List (ℕ × ℕ)) (p i other : ℕ) → list_any (is_at p i) (map Scalar (map (λ x. x.0) fixed)) ≡ false → number_in (slots_with fixed) p i other ≡ other
same_number_in [] p i other h = refl
same_number_in (x ∷ xs) p i other h =
    let two = none_of (is_at p i (Scalar x.0)) (list_any (is_at p i) (map Scalar (map (λ y. y.0) xs))) h in
    rw two.0 (same_number_in xs p i other two.1)

-- no property stands twice
abbrev AreOnce : List ℕ → Type 0
AreOnce [] = ⊤
AreOnce (p ∷ ps) = (list_any (λ q. p == q) ps ≡ false) × AreOnce ps

module _ (f : FrameTerm) (a : Reading) where
  skip_first : (x : ℕ × ℕ) (xs rest : List (ℕ × ℕ)) → list_any (λ q. x.0 == q) (map (λ y. y.0) rest) ≡ false
      → AreFixed f (reading_with a (slots_with xs)) rest → AreFixed f (reading_with a (slots_with (x ∷ xs))) rest
  skip_first x xs [] h k = tt
  skip_first x xs (y ∷ rest) h k =
      let two = none_of (x.0 == y.0) (list_any (λ q. x.0 == q) (map (λ z. z.0) rest)) h in
      ((λ i. if two.0 i && true then x.1 else number_in (slots_with xs) y.0 0 (a.element y.0 0)) ∙ k.0, skip_first x xs rest two.1 k.1)

  all_fixed : (fixed : List (ℕ × ℕ)) → AreOnce (map (λ x. x.0) fixed) → AreFixed f (reading_with a (slots_with fixed)) fixed
  all_fixed [] h = tt
  all_fixed (x ∷ xs) h = (ap (λ b. if b && true then x.1 else number_in (slots_with xs) x.0 0 (a.element x.0 0)) (eq-eqb x.0 x.0 refl), skip_first x xs xs h.0 (all_fixed xs h.1))

-- those of a range that pass a test stand there once
above : (t : ℕ → Bool) (p a n : ℕ) → p < a → list_any (λ q. p == q) (filter t (range_with_len a n)) ≡ false
above t p a zero lt = refl
above t p a (suc n) lt = by_test (t a) refl (above t p (a + 1) n (omega (arith, lt)))
  where
    by_test : (b : Bool) → t a ≡ b → list_any (λ q. p == q) (filter t (range_with_len (a + 1) n)) ≡ false → list_any (λ q. p == q) (filter t (range_with_len a (suc n))) ≡ false
    by_test true e rest = rw e (λ i. ne_eqb p a (λ s. absurd (omega (arith, lt, s))) i || rest i)
    by_test false e rest = rw e rest

once_in_range : (t : ℕ → Bool) (a n : ℕ) → AreOnce (filter t (range_with_len a n))
once_in_range t a zero = tt
once_in_range t a (suc n) = by_test (t a) refl (once_in_range t (a + 1) n)
  where
    by_test : (b : Bool) → t a ≡ b → AreOnce (filter t (range_with_len (a + 1) n)) → AreOnce (filter t (range_with_len a (suc n)))
    by_test true e rest = rw e (above t a (a + 1) n (omega arith), rest)
    by_test false e rest = rw e rest

-- ---- chosen values fit

last_fixed : (f : FrameTerm) (a : Reading) (before : List Choice) (x : Choice) → AreFixed f a (fixed_of (before ++ x ∷ [])) → a.element x.prop 0 ≡ x.value
last_fixed f a [] x h = h.0
last_fixed f a (y ∷ before) x h = last_fixed f a before x h.1

pub chosen_below : (f : FrameTerm) (k : Cycles) → IsSound f → (before : List Choice) (ps : List ℕ) (xs : List Choice) → AreChosen f k before ps xs → AllBelow f (fixed_of xs)
chosen_below f k sound before [] [] h = tt
chosen_below f k sound before [] (x ∷ xs) h = absurd h
chosen_below f k sound before (p ∷ ps) [] h = absurd h
chosen_below f k sound before (p ∷ ps) (x ∷ xs) h =
    let sat = h.0.one in
    let is_value = last_fixed f sat.0 before x sat.1.chosen in (
      subst (λ (v : ℕ). v < 2 ^ width_of f x.prop) is_value (number_fits f sat.0 f.state.sizes sound (state_sizes_fit f sound) Randc (fixed_of (before ++ x ∷ [])) sat.1 x.prop 0),
      chosen_below f k sound (before ++ x ∷ []) ps xs h.1,
    )

pub fixed_props : (xs : List Choice) → map (λ (x : ℕ × ℕ). x.0) (fixed_of xs) ≡ map (λ (x : Choice). x.prop) xs
fixed_props [] = refl
fixed_props (x ∷ xs) = ap (λ ps. x.prop ∷ ps) (fixed_props xs)

-- numbers that fit for all cyclic properties, in their order
module _ (f : FrameTerm) (ns : List ℕ) (sound : IsSound f) (fit : SizesFit f ns) (cap : ℕ) (le : cap ≤ 2048) (words : ℕ → ℕ) (fixed : List (ℕ × ℕ)) (props : map (λ (x : ℕ × ℕ). x.0) fixed ≡ cyclic_props f) (below : AllBelow f fixed) where
  abbrev base : Reading
  base = preferred_of f All ns cap (words_after (length fixed) words)

  base_is : IsAssignment f All ns [] base
  base_is = preferred_is f ns sound fit cap le (words_after (length fixed) words) All

  number_below : (p i : ℕ) → base.element p i < 2 ^ width_of f p
  number_below p i = number_fits f base ns sound fit All [] base_is p i

  all_fit : (ss : List Slot) → AllFit f base ss → AllFit f (preferred_with f All ns cap words fixed) ss
  all_fit [] h = tt
  all_fit (Scalar p ∷ ss) h = (below_in f fixed below p 0 (base.element p 0) (number_below p 0), all_fit ss h.1)
  all_fit (Element p i ∷ ss) h = (below_in f fixed below p i (base.element p i) (number_below p i), all_fit ss h.1)
  all_fit (Size p ∷ ss) h = (subst (λ (n : ℕ). n < 2 ^ 31) (sym (same_sizes_in fixed p (base.size p))) h.0, all_fit ss h.1)

  not_cyclic : (p i : ℕ) → list_any (is_at p i) (unknowns_of f All ns) ≡ false → list_any (is_at p i) (map Scalar (map (λ (x : ℕ × ℕ). x.0) fixed)) ≡ false
  not_cyclic p i h =
      ap (λ (ps : List ℕ). list_any (is_at p i) (map Scalar ps)) props
      ∙ (none_of (list_any (is_at p i) (cyclic_slots f)) (list_any (is_at p i) (scalar_slots f))
      (sym (list_any-append (is_at p i) (cyclic_slots f) (scalar_slots f))
      ∙ (none_of (list_any (is_at p i) (cyclic_slots f ++ scalar_slots f)) (list_any (is_at p i) (element_slots f ns)) (sym (list_any-append (is_at p i) (cyclic_slots f ++ scalar_slots f) (element_slots f ns)) ∙ h)).0)).0

  pub with_values_is : IsAssignment f All ns fixed (preferred_with f All ns cap words fixed)
  with_values_is = record {
    fits = all_fit (unknowns_of f All ns) base_is.fits;
    same_numbers = λ p i h. same_number_in fixed p i (base.element p i) (not_cyclic p i h) ∙ base_is.same_numbers p i h;
    same_sizes = λ p h. same_sizes_in fixed p (base.size p) ∙ base_is.same_sizes p h;
    same_script = base_is.same_script;
    chosen = all_fixed f base fixed (subst AreOnce (sym props) (once_in_range (is_cyclic f) 0 (length f.class.props)));
  }

-- those that the phase of cyclic values chose
pub preferred_with_is : (f : FrameTerm) (ns : List ℕ) → IsSound f → SizesFit f ns → (cap : ℕ) → cap ≤ 2048 → (words : ℕ → ℕ) (k : Cycles) (choices : List Choice) → AreChosen f k [] (cyclic_props f) choices
    → IsAssignment f All ns (fixed_of choices) (preferred_with f All ns cap words (fixed_of choices))
preferred_with_is f ns sound fit cap le words k choices chosen =
    with_values_is f ns sound fit cap le words (fixed_of choices) (fixed_props choices ∙ chosen_props f k [] (cyclic_props f) choices chosen) (chosen_below f k sound [] (cyclic_props f) choices chosen)
