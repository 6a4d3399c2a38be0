-- A random property is looked for in the last phase at each place below its size.
use Rattle.std.proofs.Common.{◌≡◌, ◌<◌, ◌≤◌, ◌==◌, ◌+◌, ℕ, zero, suc, Bool, true, false, not, ◌&&◌, ◌||◌, refl, ◌∙◌, ap, List, [], ◌∷◌, ◌++◌, map, length, arith}
use Rattle.std.specs.Prelude.{filter, nat_lt, slice_index, slice_index_or}
use Rattle.std.specs.List.{All, list_any, flat_map, range_with_len}
use Rattle.std.proofs.lemmas.Bool.{and_parts, eq-eqb, ltb-true, ltb-false}
use Rattle.std.proofs.lemmas.List.Folds.{list_any-append}
use Rattle.std.proofs.lemmas.List.Concat.{flat_map-cons}
use Rattle.std.proofs.lemmas.List.Elements.{All-head, All-tail}
use Rattle.svr_typed.specs.declared.class.Prop.{Prop}
use Rattle.svr_typed.specs.declared.class.EnumType.{EnumType}
use Rattle.svr_frame.specs.declared.part.Part.TheVariants.{All as Whole}
use Rattle.svr_frame.specs.declared.slot.Slot.{Slot}
use Rattle.svr_frame.specs.declared.slot.Slot.TheVariants.{Scalar, Element}
use Rattle.svr_frame.specs.Frame.{FrameTerm, is_scalar_kind, is_randc, is_array, is_random, is_cyclic}
use Rattle.svr_frame.specs.Phases.{cyclic_slots, scalar_slots, element_slots, is_random_array, unknowns_of}
use Rattle.svr_frame.specs.Satisfaction.{is_at}
use Rattle.svr_frame.specs.Sound.{IsProp, IsSound, SizesFit}
use Rattle.svr_frame_laws.proofs.Answers.{scalar_one}

pub or_left : (b c : Bool) → b ≡ true → (b || c) ≡ true
or_left true c h = refl
or_left false c h = cc

pub or_right : (b c : Bool) → c ≡ true → (b || c) ≡ true
or_right true c h = refl
or_right false c h = h

-- ---- lists over the numbers of a range that pass a test

module _ (t : Slot → Bool) (make : ℕ → Slot) (k : ℕ → Bool) (p : ℕ) (passes : k p ≡ true) (found : t (make p) ≡ true) where
  any_mapped : (a n : ℕ) → a ≤ p → p < a + n → list_any t (map make (filter k (range_with_len a n))) ≡ true
  any_mapped a zero from to = absurd (omega (arith, from, to))
  any_mapped a (suc n) from to = by_place (nat_lt a p) refl (λ g h. any_mapped (a + 1) n g h)
    where
      later : (b : Bool) → k a ≡ b → list_any t (map make (filter k (range_with_len (a + 1) n))) ≡ true → list_any t (map make (filter k (range_with_len a (suc n)))) ≡ true
      later true e rest = rw e (or_right (t (make a)) (list_any t (map make (filter k (range_with_len (a + 1) n)))) rest)
      later false e rest = rw e rest

      here : (b : Bool) → k a ≡ b → b ≡ true → t (make a) ≡ true → list_any t (map make (filter k (range_with_len a (suc n)))) ≡ true
      here true e w h = rw e (or_left (t (make a)) (list_any t (map make (filter k (range_with_len (a + 1) n)))) h)
      here false e w h = absurd (cc)

      by_place : (b : Bool) → nat_lt a p ≡ b → (a + 1 ≤ p → p < a + 1 + n → list_any t (map make (filter k (range_with_len (a + 1) n))) ≡ true) → list_any t (map make (filter k (range_with_len a (suc n)))) ≡ true
      by_place true e rest = later (k a) refl (rest (omega (arith, ltb-true a p e)) (omega (arith, to)))
      by_place false e rest =
          let same : a ≡ p = omega (arith, from, ltb-false a p e) in
          here (k a) refl (ap k same ∙ passes) (ap (λ (q : ℕ). t (make q)) same ∙ found)

module _ (t : Slot → Bool) (make : ℕ → List Slot) (k : ℕ → Bool) (p : ℕ) (passes : k p ≡ true) (found : list_any t (make p) ≡ true) where
  joined : (x : ℕ) (xs : List ℕ) → list_any t (flat_map make (x ∷ xs)) ≡ (list_any t (make x) || list_any t (flat_map make xs))
  joined x xs = ap (list_any t) (flat_map-cons make x xs) ∙ list_any-append t (make x) (flat_map make xs)

  any_joined : (a n : ℕ) → a ≤ p → p < a + n → list_any t (flat_map make (filter k (range_with_len a n))) ≡ true
  any_joined a zero from to = absurd (omega (arith, from, to))
  any_joined a (suc n) from to = by_place (nat_lt a p) refl (λ g h. any_joined (a + 1) n g h)
    where
      later : (b : Bool) → k a ≡ b → list_any t (flat_map make (filter k (range_with_len (a + 1) n))) ≡ true → list_any t (flat_map make (filter k (range_with_len a (suc n)))) ≡ true
      later true e rest = rw e (joined a (filter k (range_with_len (a + 1) n)) ∙ or_right (list_any t (make a)) (list_any t (flat_map make (filter k (range_with_len (a + 1) n)))) rest)
      later false e rest = rw e rest

      here : (b : Bool) → k a ≡ b → b ≡ true → list_any t (make a) ≡ true → list_any t (flat_map make (filter k (range_with_len a (suc n)))) ≡ true
      here true e w h = rw e (joined a (filter k (range_with_len (a + 1) n)) ∙ or_left (list_any t (make a)) (list_any t (flat_map make (filter k (range_with_len (a + 1) n)))) h)
      here false e w h = absurd (cc)

      by_place : (b : Bool) → nat_lt a p ≡ b → (a + 1 ≤ p → p < a + 1 + n → list_any t (flat_map make (filter k (range_with_len (a + 1) n))) ≡ true) → list_any t (flat_map make (filter k (range_with_len a (suc n)))) ≡ true
      by_place true e rest = later (k a) refl (rest (omega (arith, ltb-true a p e)) (omega (arith, to)))
      by_place false e rest =
          let same : a ≡ p = omega (arith, from, ltb-false a p e) in
          here (k a) refl (ap k same ∙ passes) (ap (λ (q : ℕ). list_any t (make q)) same ∙ found)

any_element : (p i a n : ℕ) → a ≤ i → i < a + n → list_any (is_at p i) (map (Element p) (range_with_len a n)) ≡ true
any_element p i a zero from to = absurd (omega (arith, from, to))
any_element p i a (suc n) from to = by_place (nat_lt a i) refl (λ g h. any_element p i (a + 1) n g h)
  where
    by_place : (b : Bool) → nat_lt a i ≡ b → (a + 1 ≤ i → i < a + 1 + n → list_any (is_at p i) (map (Element p) (range_with_len (a + 1) n)) ≡ true) → list_any (is_at p i) (map (Element p) (range_with_len a (suc n))) ≡ true
    by_place true e rest = or_right ((p == p) && (a == i)) (list_any (is_at p i) (map (Element p) (range_with_len (a + 1) n))) (rest (omega (arith, ltb-true a i e)) (omega (arith, to)))
    by_place false e rest =
        let same : a ≡ i = omega (arith, from, ltb-false a i e) in
        or_left ((p == p) && (a == i)) (list_any (is_at p i) (map (Element p) (range_with_len (a + 1) n))) (λ j. eq-eqb p p refl j && eq-eqb a i same j)

-- ---- properties of a frame

there_in : (xs : List Bool) (p : ℕ) → slice_index_or xs p false ≡ true → p < length xs
there_in [] p h = cc
there_in (x ∷ xs) zero h = omega arith
there_in (x ∷ xs) (suc p) h = omega (arith, there_in xs p h)

-- a cyclic property is a scalar (18.4.2)
cyclic_scalar : (ts : List EnumType) (props : List Prop) (p : ℕ) → All (IsProp ts) props → slice_index_or (map (λ (x : Prop). is_randc x.rand) props) p false ≡ true → slice_index_or (map (λ (x : Prop). is_scalar_kind x.array) props) p false ≡ true
cyclic_scalar ts [] p a h = cc
cyclic_scalar ts (x ∷ props) zero a h = (All-head (IsProp ts) x props a).cyclic h
cyclic_scalar ts (x ∷ props) (suc p) a h = cyclic_scalar ts props p (All-tail (IsProp ts) x props a) h

module _ (f : FrameTerm) (ns : List ℕ) (sound : IsSound f) (fit : SizesFit f ns) where
  parts : (t : Slot → Bool) → list_any t (unknowns_of f Whole ns) ≡ ((list_any t (cyclic_slots f) || list_any t (scalar_slots f)) || list_any t (element_slots f ns))
  parts t = list_any-append t (cyclic_slots f ++ scalar_slots f) (element_slots f ns) ∙ ap (λ b. b || list_any t (element_slots f ns)) (list_any-append t (cyclic_slots f) (scalar_slots f))

  module _ (p i : ℕ) (random : is_random f p ≡ true) (below : i < slice_index ns p) where
    there : p < length f.class.props
    there = omega (arith, sound.random, there_in f.random p random)

    -- a scalar has the place 0 alone
    at_scalar : is_array f p ≡ false → is_at p i (Scalar p) ≡ true
    at_scalar scalar =
        let first : i ≡ 0 = omega (arith, scalar_one f ns sound fit p scalar, below) in
        λ j. eq-eqb p p refl j && eq-eqb i 0 first j

    among_cyclic : is_cyclic f p ≡ true → list_any (is_at p i) (cyclic_slots f) ≡ true
    among_cyclic cyclic =
        let two = and_parts (is_random f p) (slice_index_or (map (λ (x : Prop). is_randc x.rand) f.class.props) p false) cyclic in
        let scalar : is_array f p ≡ false = ap not (cyclic_scalar f.enums f.class.props p sound.props two.1) in
        any_mapped (is_at p i) Scalar (is_cyclic f) p cyclic (at_scalar scalar) 0 (length f.class.props) (omega arith) (omega (arith, there))

    among_scalars : is_array f p ≡ false → is_cyclic f p ≡ false → list_any (is_at p i) (scalar_slots f) ≡ true
    among_scalars scalar drawn =
        any_mapped (is_at p i) Scalar (λ q. is_random f q && not (is_array f q) && not (is_cyclic f q)) p (λ j. random j && not (scalar j) && not (drawn j)) (at_scalar scalar) 0 (length f.class.props) (omega arith)
        (omega (arith, there))

    among_elements : is_array f p ≡ true → list_any (is_at p i) (element_slots f ns) ≡ true
    among_elements array =
        any_joined (is_at p i) (λ q. map (Element q) (range_with_len 0 (slice_index ns q))) (is_random_array f) p (λ j. random j && array j)
        (any_element p i 0 (slice_index ns p) (omega arith) (omega (arith, below))) 0 (length f.class.props) (omega arith) (omega (arith, there))

    by_kind : (b c : Bool) → is_cyclic f p ≡ b → is_array f p ≡ c → ((list_any (is_at p i) (cyclic_slots f) || list_any (is_at p i) (scalar_slots f)) || list_any (is_at p i) (element_slots f ns)) ≡ true
    by_kind true c cyclic kind = or_left (list_any (is_at p i) (cyclic_slots f) || list_any (is_at p i) (scalar_slots f)) (list_any (is_at p i) (element_slots f ns)) (or_left (list_any (is_at p i) (cyclic_slots f)) (list_any (is_at p i) (scalar_slots f)) (among_cyclic cyclic))
    by_kind false false drawn scalar =
        or_left (list_any (is_at p i) (cyclic_slots f) || list_any (is_at p i) (scalar_slots f)) (list_any (is_at p i) (element_slots f ns)) (or_right (list_any (is_at p i) (cyclic_slots f)) (list_any (is_at p i) (scalar_slots f)) (among_scalars scalar drawn))
    by_kind false true drawn array = or_right (list_any (is_at p i) (cyclic_slots f) || list_any (is_at p i) (scalar_slots f)) (list_any (is_at p i) (element_slots f ns)) (among_elements array)

    pub sought : list_any (is_at p i) (unknowns_of f Whole ns) ≡ true
    sought = parts (is_at p i) ∙ by_kind (is_cyclic f p) (is_array f p) refl refl
