-- What is no unknown of a phase: elements past the sizes, and sizes that are not looked for
use Rattle.std.proofs.Common.{◌≡◌, ℕ, zero, suc, ◌+◌, ◌<◌, ◌≤◌, Bool, true, false, cond, not, ◌&&◌, ◌||◌, eqb, List, [], ◌∷◌, ◌++◌, length, map, refl, sym, ap, ◌∙◌, arith, subst}
use Rattle.std.specs.Prelude.{filter, slice_index, slice_index_or}
use Rattle.std.specs.List.{list_any, flat_map, range_with_len, All}
use Rattle.std.proofs.lemmas.Bool.{and_parts, eqb-true}
use Rattle.svr_frame.specs.declared.slot.Slot.{Slot}
use Rattle.svr_frame.specs.declared.slot.Slot.TheVariants.{Scalar, Element, Size}
use Rattle.svr_frame.specs.declared.part.Part.{Part}
use Rattle.svr_frame.specs.declared.part.Part.TheVariants.{Randc, Sizes, All as Whole}
use Rattle.svr_frame.specs.Frame.{FrameTerm, props_of, is_scalar, is_array, is_random, is_cyclic, has_free_size}
use Rattle.svr_frame.specs.Satisfaction.{is_at, is_size_of}
use Rattle.svr_frame.specs.Phases.{cyclic_slots, size_slots, scalar_slots, element_slots, is_random_array, unknowns_of, sought_sizes}

any_append : (t : Slot → Bool) (xs ys : List Slot) → list_any t xs ≡ false → list_any t ys ≡ false → list_any t (xs ++ ys) ≡ false
any_append t [] ys h k = k
any_append t (x ∷ xs) ys h k = by_test (t x) h (any_append t xs ys) where
  by_test : (b : Bool) → (b || list_any t xs) ≡ false → (list_any t xs ≡ false → list_any t ys ≡ false → list_any t (xs ++ ys) ≡ false) → (b || list_any t (xs ++ ys)) ≡ false
  by_test true e rest = cc
  by_test false e rest = rest e k

-- none of those that are kept passes
none_kept : (t : Slot → Bool) (g : ℕ → Bool) (make : ℕ → Slot) (xs : List ℕ) → ((q : ℕ) → g q ≡ true → t (make q) ≡ false) → list_any t (map make (filter g xs)) ≡ false
none_kept t g make [] h = refl
none_kept t g make (x ∷ xs) h = by_test (g x) (h x) (none_kept t g make xs h) where
  by_test : (b : Bool) → (b ≡ true → t (make x) ≡ false) → list_any t (map make (filter g xs)) ≡ false → list_any t (map make (cond b (x ∷ filter g xs) (filter g xs))) ≡ false
  by_test true e rest = ap (λ b. b || list_any t (map make (filter g xs))) (e refl) ∙ rest
  by_test false e rest = rest

none_joined : (t : Slot → Bool) (g : ℕ → Bool) (make : ℕ → List Slot) (xs : List ℕ) → ((q : ℕ) → g q ≡ true → list_any t (make q) ≡ false) → list_any t (flat_map make (filter g xs)) ≡ false
none_joined t g make [] h = refl
none_joined t g make (x ∷ xs) h = by_test (g x) (h x) (none_joined t g make xs h) where
  by_test : (b : Bool) → (b ≡ true → list_any t (make x) ≡ false) → list_any t (flat_map make (filter g xs)) ≡ false → list_any t (flat_map make (cond b (x ∷ filter g xs) (filter g xs))) ≡ false
  by_test true e rest = any_append t (make x) (flat_map make (filter g xs)) (e refl) rest
  by_test false e rest = rest

other_element : (p j q i : ℕ) → (q ≡ p → i < j) → is_at p j (Element q i) ≡ false
other_element p j q i h = by_test (eqb q p) (eqb i j) refl refl where
  by_test : (b c : Bool) → eqb q p ≡ b → eqb i j ≡ c → (b && c) ≡ false
  by_test true true e f = let s : q ≡ p = eqb-true q p e in let t : i ≡ j = eqb-true i j f in absurd (omega (arith, h s))
  by_test true false e f = refl
  by_test false true e f = refl
  by_test false false e f = refl

none_before : (p j q a n : ℕ) → (q ≡ p → a + n ≤ j) → list_any (is_at p j) (map (Element q) (range_with_len a n)) ≡ false
none_before p j q a zero h = refl
none_before p j q a (suc n) h =
    ap (λ b. b || list_any (is_at p j) (map (Element q) (range_with_len (a + 1) n))) (other_element p j q a (λ e. omega (arith, h e)))
    ∙ none_before p j q (a + 1) n (λ e. omega (arith, h e))

-- a scalar stands at the place 0 alone, which a scalar has
other_scalar : (p j q : ℕ) → (q ≡ p → j ≡ 0 → ⊥) → is_at p j (Scalar q) ≡ false
other_scalar p j q h = by_test (eqb q p) (eqb j 0) refl refl where
  by_test : (b c : Bool) → eqb q p ≡ b → eqb j 0 ≡ c → (b && c) ≡ false
  by_test true true e f = absurd (h (eqb-true q p e) (eqb-true j 0 f))
  by_test true false e f = refl
  by_test false true e f = refl
  by_test false false e f = refl

-- where a scalar that is looked for has the size 1
module _ (f : FrameTerm) (ns : List ℕ) (cyclic : (q : ℕ) → is_cyclic f q ≡ true → 0 < slice_index ns q) (scalar : (q : ℕ) → is_scalar f q ≡ true → 0 < slice_index ns q) (p j : ℕ) (past : slice_index ns p ≤ j) where
  no_place : (q : ℕ) → 0 < slice_index ns q → is_at p j (Scalar q) ≡ false
  no_place q h = other_scalar p j q (λ e z. let s = ap (slice_index ns) e in omega (arith, h, s, past, z))

  no_cyclic : list_any (is_at p j) (cyclic_slots f) ≡ false
  no_cyclic = none_kept (is_at p j) (is_cyclic f) Scalar (props_of f) (λ q h. no_place q (cyclic q h))

  no_size : list_any (is_at p j) (size_slots f) ≡ false
  no_size = none_kept (is_at p j) (has_free_size f) Size (props_of f) (λ q h. refl)

  not_array : (b c d : Bool) → (b && not c && d) ≡ true → c ≡ false
  not_array true true d h = cc
  not_array true false d h = refl
  not_array false c d h = cc

  not_not : (b : Bool) → not b ≡ false → b ≡ true
  not_not true h = refl
  not_not false h = cc

  no_scalar : list_any (is_at p j) (scalar_slots f) ≡ false
  no_scalar =
      none_kept (is_at p j) (λ q. is_random f q && not (is_array f q) && not (is_cyclic f q)) Scalar (props_of f)
      (λ q h. no_place q (scalar q (not_not (is_scalar f q) (not_array (is_random f q) (is_array f q) (not (is_cyclic f q)) h))))

  no_element : list_any (is_at p j) (element_slots f ns) ≡ false
  no_element =
      none_joined (is_at p j) (is_random_array f) (λ q. map (Element q) (range_with_len 0 (slice_index ns q))) (props_of f)
      (λ q h. none_before p j q 0 (slice_index ns q) (λ e. let s = ap (slice_index ns) e in omega (arith, s, past)))

  pub none_past : (part : Part) → list_any (is_at p j) (unknowns_of f part ns) ≡ false
  none_past Randc = no_cyclic
  none_past Sizes = any_append (is_at p j) (cyclic_slots f ++ size_slots f) (scalar_slots f) (any_append (is_at p j) (cyclic_slots f) (size_slots f) no_cyclic no_size) no_scalar
  none_past Whole = any_append (is_at p j) (cyclic_slots f ++ scalar_slots f) (element_slots f ns) (any_append (is_at p j) (cyclic_slots f) (scalar_slots f) no_cyclic no_scalar) no_element

-- a size that is not looked for is no unknown
module _ (f : FrameTerm) (ns : List ℕ) (p : ℕ) where
  no_cyclic_size : list_any (is_size_of p) (cyclic_slots f) ≡ false
  no_cyclic_size = none_kept (is_size_of p) (is_cyclic f) Scalar (props_of f) (λ q h. refl)

  no_scalar_size : list_any (is_size_of p) (scalar_slots f) ≡ false
  no_scalar_size = none_kept (is_size_of p) (λ q. is_random f q && not (is_array f q) && not (is_cyclic f q)) Scalar (props_of f) (λ q h. refl)

  elements_alone : (q a n : ℕ) → list_any (is_size_of p) (map (Element q) (range_with_len a n)) ≡ false
  elements_alone q a zero = refl
  elements_alone q a (suc n) = elements_alone q (a + 1) n

  no_element_size : list_any (is_size_of p) (element_slots f ns) ≡ false
  no_element_size = none_joined (is_size_of p) (is_random_array f) (λ q. map (Element q) (range_with_len 0 (slice_index ns q))) (props_of f) (λ q h. elements_alone q 0 (slice_index ns q))

  other_size : has_free_size f p ≡ false → (q : ℕ) → has_free_size f q ≡ true → is_size_of p (Size q) ≡ false
  other_size h q k = by_test (eqb q p) refl where
    by_test : (b : Bool) → eqb q p ≡ b → b ≡ false
    by_test true e = let s : q ≡ p = eqb-true q p e in let t : true ≡ false = sym k ∙ ap (has_free_size f) s ∙ h in cc
    by_test false e = refl

  pub none_unsought : (part : Part) → sought_sizes f part p ≡ false → list_any (is_size_of p) (unknowns_of f part ns) ≡ false
  none_unsought Randc h = no_cyclic_size
  none_unsought Sizes h =
      any_append (is_size_of p) (cyclic_slots f ++ size_slots f) (scalar_slots f)
      (any_append (is_size_of p) (cyclic_slots f) (size_slots f) no_cyclic_size (none_kept (is_size_of p) (has_free_size f) Size (props_of f) (other_size h))) no_scalar_size
  none_unsought Whole h = any_append (is_size_of p) (cyclic_slots f ++ scalar_slots f) (element_slots f ns) (any_append (is_size_of p) (cyclic_slots f) (scalar_slots f) no_cyclic_size no_scalar_size) no_element_size
