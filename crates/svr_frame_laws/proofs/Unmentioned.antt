-- What an item does not mention does not matter to it: assignments of the last phase that agree on what it mentions give it the same truth.
use Rattle.std.proofs.Common.{◌≡◌, ◌<◌, ◌≤◌, ◌==◌, ℕ, zero, suc, ◌+◌, ◌*◌, ℤ, pos, negsuc, Bool, true, false, not, ◌&&◌, ◌||◌, refl, sym, ◌∙◌, ap, subst, List, [], ◌∷◌, ◌++◌, map, length, Option, None, Some, arith}
use Rattle.std.specs.Prelude.{⊤, filter, slice_index, slice_index_or, nat_lt, if◌then◌else◌}
use Rattle.std.specs.List.{list_any, flat_map, range_with_len}
use Rattle.std.specs.Ordering.{int_eq}
use Rattle.std.proofs.lemmas.Bool.Decides.{Decides-int_eq}
use Rattle.svr_num.specs.Num.{read_of}
use Rattle.svr_typed.specs.declared.class.Prop.{Prop}
use Rattle.std.proofs.lemmas.Bool.{and_parts, eqb-true, ltb-true, ltb-false, lt-ltb, eq-eqb}
use Rattle.std.proofs.lemmas.List.Folds.{list_any-append}
use Rattle.std.proofs.lemmas.List.Concat.{flat_map-cons}
use Rattle.svr_typed.specs.ExprTerm.{ExprTerm}
use Rattle.svr_eval.specs.Reading.{Reading}
use Rattle.svr_eval.specs.Value.{element_at, cell_at, index_read, alone, size_of, sign_of}
use Rattle.svr_frame.specs.declared.part.Part.{Part}
use Rattle.svr_frame.specs.declared.part.Part.TheVariants.{Randc, Sizes, All}
use Rattle.svr_frame.specs.declared.slot.Slot.{Slot}
use Rattle.svr_frame.specs.declared.slot.Slot.TheVariants.{Scalar, Element, Size}
use Rattle.svr_frame.specs.Frame.{FrameTerm, is_scalar_kind, is_randc, is_scalar, is_array, is_random, is_cyclic, can_be_random, has_free_size, props_of, state_at, state_sizes}
use Rattle.svr_frame.specs.Occurrences.{Occurrence, Shape, is_true}
use Rattle.svr_frame.specs.Reads.{Read, of_scalar, of_element, of_cell, of_elements, of_size, property_read, is_size_read, reads, reads_of, has_place, is_cell_at, covers, is_free_size, can_vary, is_open, is_sought, mentions, mentions_element}
use Rattle.svr_frame.specs.Phases.{cyclic_slots, size_slots, scalar_slots, element_slots, is_random_array, unknowns_of, shape_at, sought_sizes}
use Rattle.svr_frame.specs.Satisfaction.{is_at, IsAssignment}
use Rattle.svr_frame.specs.Sound.{IsSound, SizesFit, is_of_state}
use Rattle.svr_frame_laws.proofs.Mentions.{SameRead, AllSame, SameAround, val_same, same_truth}
use Rattle.svr_frame_laws.proofs.Answers.{any_prop, found, no_size, sized}
use Rattle.svr_frame.proofs.Blind.{any_reads}

-- ---- places that are not unknown

-- a test that one number passes and another does not tells them apart
pub told_apart : (test : ℕ → Bool) (x p : ℕ) → test x ≡ true → test p ≡ false → (b : Bool) → (x == p) ≡ b → (x == p) ≡ false
told_apart test x p h k true e = let same : test x ≡ test p = ap test (eqb-true x p e) in cc
told_apart test x p h k false e = e

scalars_apart : (test : ℕ → Bool) (p i : ℕ) → test p ≡ false → (xs : List ℕ) → list_any (is_at p i) (map Scalar (filter test xs)) ≡ false
scalars_apart test p i h [] = refl
scalars_apart test p i h (x ∷ xs) = by_test (test x) refl (scalars_apart test p i h xs)
  where
    by_test : (b : Bool) → test x ≡ b → list_any (is_at p i) (map Scalar (filter test xs)) ≡ false → list_any (is_at p i) (map Scalar (filter test (x ∷ xs))) ≡ false
    by_test true e rest = rw (e, told_apart test x p e h (x == p) refl) rest
    by_test false e rest = rw e rest

sizes_apart : (p i : ℕ) (xs : List ℕ) → list_any (is_at p i) (map Size xs) ≡ false
sizes_apart p i [] = refl
sizes_apart p i (x ∷ xs) = sizes_apart p i xs

element_apart : (p i q : ℕ) → (q == p) ≡ false → (xs : List ℕ) → list_any (is_at p i) (map (Element q) xs) ≡ false
element_apart p i q h [] = refl
element_apart p i q h (x ∷ xs) = rw h (element_apart p i q h xs)

-- a number of the range is below its end
not_in_range : (j i : ℕ) → j < i → (b : Bool) → (j == i) ≡ b → (j == i) ≡ false
not_in_range j i lt true e = absurd (omega (arith, eqb-true j i e, lt))
not_in_range j i lt false e = e

element_past : (p i q j n : ℕ) → j + n ≤ i → list_any (is_at p i) (map (Element q) (range_with_len j n)) ≡ false
element_past p i q j zero le = refl
element_past p i q j (suc n) le = ap (λ b. (q == p) && b || list_any (is_at p i) (map (Element q) (range_with_len (j + 1) n))) (not_in_range j i (omega (arith, le)) (j == i) refl) ∙ none (q == p) (element_past p i q (j + 1) n (omega (arith, le)))
  where
    none : (b : Bool) {c : Bool} → c ≡ false → (b && false || c) ≡ false
    none true h = h
    none false h = h

module _ (f : FrameTerm) (ns : List ℕ) where
  abbrev elements_in : List ℕ → List Slot
  elements_in qs = flat_map (λ q. map (Element q) (range_with_len 0 (slice_index ns q))) (filter (is_random_array f) qs)

  elements_none : (p i : ℕ) → ((q : ℕ) → is_random_array f q ≡ true → list_any (is_at p i) (map (Element q) (range_with_len 0 (slice_index ns q))) ≡ false)
      → (qs : List ℕ) → list_any (is_at p i) (elements_in qs) ≡ false
  elements_none p i h [] = refl
  elements_none p i h (q ∷ qs) = by_test (is_random_array f q) refl (elements_none p i h qs)
    where
      by_test : (b : Bool) → is_random_array f q ≡ b → list_any (is_at p i) (elements_in qs) ≡ false → list_any (is_at p i) (elements_in (q ∷ qs)) ≡ false
      by_test true e rest =
          rw e
          (ap (list_any (is_at p i)) (flat_map-cons (λ x. map (Element x) (range_with_len 0 (slice_index ns x))) q (filter (is_random_array f) qs))
          ∙ list_any-append (is_at p i) (map (Element q) (range_with_len 0 (slice_index ns q))) (elements_in qs) ∙ (λ k. h q e k || rest k))
      by_test false e rest = rw e rest

  three : (xs ys zs : List Slot) (p i : ℕ) → list_any (is_at p i) xs ≡ false → list_any (is_at p i) ys ≡ false → list_any (is_at p i) zs ≡ false → list_any (is_at p i) (xs ++ ys ++ zs) ≡ false
  three xs ys zs p i h k l = list_any-append (is_at p i) (xs ++ ys) zs ∙ (λ j. (list_any-append (is_at p i) xs ys ∙ (λ m. h m || k m)) j || l j)

  not_cyclic : (p : ℕ) → is_random f p ≡ false → is_cyclic f p ≡ false
  not_cyclic p h = rw h refl

  random_array_random : (q : ℕ) → is_random_array f q ≡ true → is_random f q ≡ true
  random_array_random q h = (and_parts (is_random f q) (is_array f q) h).0

  -- a property that is not random is not sought
  pub not_sought : (part : Part) (p i : ℕ) → is_random f p ≡ false → list_any (is_at p i) (unknowns_of f part ns) ≡ false
  not_sought Randc p i h = scalars_apart (is_cyclic f) p i (not_cyclic p h) (props_of f)
  not_sought Sizes p i h =
      three (cyclic_slots f) (size_slots f) (scalar_slots f) p i (scalars_apart (is_cyclic f) p i (not_cyclic p h) (props_of f))
      (sizes_apart p i (filter (has_free_size f) (props_of f)))
      (scalars_apart (λ q. is_random f q && not (is_array f q) && not (is_cyclic f q)) p i (rw h refl) (props_of f))
  not_sought All p i h =
      three (cyclic_slots f) (scalar_slots f) (element_slots f ns) p i (scalars_apart (is_cyclic f) p i (not_cyclic p h) (props_of f))
      (scalars_apart (λ q. is_random f q && not (is_array f q) && not (is_cyclic f q)) p i (rw h refl) (props_of f))
      (elements_none p i (λ q r. element_apart p i q (told_apart (is_random f) q p (random_array_random q r) h (q == p) refl) (range_with_len 0 (slice_index ns q))) (props_of f))

  -- nor is there an element past the size of an array that is not cyclic
  pub past_sought : (p i : ℕ) → is_array f p ≡ true → is_cyclic f p ≡ false → slice_index ns p ≤ i → list_any (is_at p i) (unknowns_of f All ns) ≡ false
  past_sought p i arr cyc le =
      three (cyclic_slots f) (scalar_slots f) (element_slots f ns) p i (scalars_apart (is_cyclic f) p i cyc (props_of f))
      (scalars_apart (λ q. is_random f q && not (is_array f q) && not (is_cyclic f q)) p i (no_scalar (is_random f p) (is_array f p) arr) (props_of f))
      (elements_none p i (λ q r. of_array q (q == p) refl) (props_of f))
    where
      no_scalar : (b c : Bool) → c ≡ true → (b && not c && not (is_cyclic f p)) ≡ false
      no_scalar true true e = refl
      no_scalar true false e = cc
      no_scalar false c e = refl

      of_array : (q : ℕ) (b : Bool) → (q == p) ≡ b → list_any (is_at p i) (map (Element q) (range_with_len 0 (slice_index ns q))) ≡ false
      of_array q true e = let same = eqb-true q p e in element_past p i q 0 (slice_index ns q) (omega (arith, le, ap (slice_index ns) same))
      of_array q false e = element_apart p i q e (range_with_len 0 (slice_index ns q))

-- ---- reads of items that stand in a frame

-- a scalar is read as a scalar, an array as an array
abbrev pub IsRead : FrameTerm → Read → Type 0
IsRead f (of_scalar p) = is_array f p ≡ false
IsRead f (of_element p env e) = is_array f p ≡ true
IsRead f (of_cell p m env first second) = is_array f p ≡ true
IsRead f (of_elements p) = is_array f p ≡ true
IsRead f (of_size p) = ⊤

abbrev pub AreReads : FrameTerm → List Read → Type 0
AreReads f [] = ⊤
AreReads f (r ∷ rs) = IsRead f r × AreReads f rs

or_left : (b c : Bool) → b ≡ true → (b || c) ≡ true
or_left true c h = refl
or_left false c h = cc

or_right : (b c : Bool) → c ≡ true → (b || c) ≡ true
or_right true c h = refl
or_right false c h = h

pub none_of : (b c : Bool) → (b || c) ≡ false → (b ≡ false) × (c ≡ false)
none_of true c h = cc
none_of false c h = (refl, h)

pub not_true : (b : Bool) → not b ≡ true → b ≡ false
not_true true h = cc
not_true false h = refl

-- what a call changes can be random
moving_still : (s r c x : Bool) → (r ≡ true → c ≡ true) → (x || (not s && c)) ≡ false → (not s && r) ≡ false
moving_still true r c x i h = refl
moving_still false false c x i h = refl
moving_still false true true true i h = cc
moving_still false true true false i h = cc
moving_still false true false x i h = let no = i refl in cc

same_int : (z : ℤ) → int_eq z z ≡ true
same_int z = (Decides-int_eq z z).1 refl

found_back : (test : Prop → Bool) (xs : List Prop) (p : ℕ) → p < length xs → test (slice_index_or xs p any_prop) ≡ true → slice_index_or (map test xs) p false ≡ true
found_back test [] p lt h = absurd (omega (arith, lt))
found_back test (x ∷ xs) zero lt h = h
found_back test (x ∷ xs) (suc p) lt h = found_back test xs p (omega (arith, lt)) h

module _ (f : FrameTerm) (ns : List ℕ) (sound : IsSound f) (fit : SizesFit f ns) where
  -- an array is not cyclic (18.4.2)
  array_not_cyclic : (p : ℕ) → is_array f p ≡ true → is_cyclic f p ≡ false
  array_not_cyclic p arr = by_cyclic (is_cyclic f p) refl
    where
      by_cyclic : (b : Bool) → is_cyclic f p ≡ b → is_cyclic f p ≡ false
      by_cyclic true e =
          let two = and_parts (is_random f p) (slice_index_or (map (λ (x : Prop). is_randc x.rand) f.class.props) p false) e in
          let there = found (λ (x : Prop). is_randc x.rand) f.class.props p two.1 in
          let scalar = found_back (λ (x : Prop). is_scalar_kind x.array) f.class.props p there.0 ((sound.props p any_prop there.0).cyclic there.1) in
          let no : not (is_scalar f p) ≡ false = ap not scalar in cc
      by_cyclic false e = e

  module _ (fixed : List (ℕ × ℕ)) (a : Reading) (is_a : IsAssignment f All ns fixed a) where
    around : SameAround (shape_at f ns) a (state_at f ns)
    around =
        let sizes = sized f ns sound fit fixed a is_a in
        record { script = is_a.same_script; scalar = λ p h. (sizes.same p ∙ sizes.scalar p h, sizes.scalar p h) }

    still_read : (r : Read) → (not (is_size_read r) && is_random f (property_read r)) ≡ false → SameRead (shape_at f ns) a (state_at f ns) r
    still_read (of_scalar p) h = is_a.same_numbers p 0 (not_sought f ns All p 0 h)
    still_read (of_element p env e) h = at_index (index_read a env e)
      where
        at_index : (z : ℤ) → element_at a p z ≡ element_at (state_at f ns) p z
        at_index (pos i) = is_a.same_numbers p i (not_sought f ns All p i h)
        at_index (negsuc i) = refl
    still_read (of_cell p m env first second) h = at_cell (index_read a env first) (index_read a env second)
      where
        at_cell : (x y : ℤ) → cell_at a p m x y ≡ cell_at (state_at f ns) p m x y
        at_cell (pos i) (pos j) = ap (λ v. if nat_lt j m then v else 0) (is_a.same_numbers p (i * m + j) (not_sought f ns All p (i * m + j) h))
        at_cell (pos i) (negsuc j) = refl
        at_cell (negsuc i) y = refl
    still_read (of_elements p) h = (is_a.same_sizes p (no_size f ns p), refl, λ i. is_a.same_numbers p i (not_sought f ns All p i h))
    still_read (of_size p) h = is_a.same_sizes p (no_size f ns p)

    still_reads : (rs : List Read) → list_any (λ r. not (is_size_read r) && is_random f (property_read r)) rs ≡ false → AllSame (shape_at f ns) a (state_at f ns) rs
    still_reads [] h = tt
    still_reads (r ∷ rs) h =
        let two = none_of (not (is_size_read r) && is_random f (property_read r)) (list_any (λ x. not (is_size_read x) && is_random f (property_read x)) rs) h in
        (still_read r two.0, still_reads rs two.1)

    abbrev moving : Read → Bool
    moving r = not (is_size_read r) && is_random f (property_read r)

    not_open : (rs : List Read) → list_any (is_sought (shape_at f ns) (sought_sizes f All)) rs ≡ false → list_any moving rs ≡ false
    not_open [] h = refl
    not_open (r ∷ rs) h =
        let two = none_of (is_sought (shape_at f ns) (sought_sizes f All) r) (list_any (is_sought (shape_at f ns) (sought_sizes f All)) rs) h in
        λ k. moving_still (is_size_read r) (is_random f (property_read r)) (can_be_random f (property_read r)) (is_free_size (shape_at f ns) (sought_sizes f All) r) (sound.can (property_read r)) two.0 k || not_open rs two.1 k

    -- an index that is not open is the state's
    pub index_still : (env : List ℕ) (e : ExprTerm) → is_open (shape_at f ns) (sought_sizes f All) e ≡ false → index_read a env e ≡ index_read (state_at f ns) env e
    index_still env e h =
        let none = sym (any_reads (shape_at f ns) (shape_at f ns) (λ p. refl) moving (λ p x y u v. refl, λ p m x y u v u' v'. refl) [] [] env 0 e)
        ∙ any_reads (shape_at f ns) (shape_at f ns) (λ p. refl) moving (λ p x y u v. refl, λ p m x y u v u' v'. refl) [] [] [] 0 e
        ∙ not_open (reads (shape_at f ns) [] e) h in
        ap (read_of (sign_of e) (size_of e)) (val_same (shape_at f ns) a (state_at f ns) around env e (still_reads (reads (shape_at f ns) env e) none) (size_of e) (sign_of e))

-- Two assignments of the last phase that agree on the random scalars and elements that an occurrence mentions.
module _ (f : FrameTerm) (ns : List ℕ) (sound : IsSound f) (fit : SizesFit f ns)
    (fixed fixed' : List (ℕ × ℕ)) (a b : Reading) (is_a : IsAssignment f All ns fixed a) (is_b : IsAssignment f All ns fixed' b) (o : Occurrence)
    (scalars : (p : ℕ) → is_random f p ≡ true → is_array f p ≡ false → mentions (shape_at f ns) p o ≡ true → a.element p 0 ≡ b.element p 0)
    (elements : (p i : ℕ) → is_random f p ≡ true → is_array f p ≡ true → i < slice_index ns p
    → mentions_element (shape_at f ns) (sought_sizes f All) (state_at f ns) p (pos i) o ≡ true → a.element p i ≡ b.element p i) where
  abbrev IsThere : List Read → Type 0
  IsThere rs = (t : Read → Bool) → list_any t rs ≡ true → list_any t (reads_of (shape_at f ns) o) ≡ true

  settled : (p i : ℕ) → is_random f p ≡ false → a.element p i ≡ b.element p i
  settled p i h = is_a.same_numbers p i (not_sought f ns All p i h) ∙ sym (is_b.same_numbers p i (not_sought f ns All p i h))

  place_same : (p i : ℕ) → is_array f p ≡ true → (is_random f p ≡ true → i < slice_index ns p → a.element p i ≡ b.element p i) → a.element p i ≡ b.element p i
  place_same p i arr h = by_random (is_random f p) refl
    where
      past : slice_index ns p ≤ i → list_any (is_at p i) (unknowns_of f All ns) ≡ false
      past = past_sought f ns p i arr (array_not_cyclic f ns sound fit p arr)

      by_size : is_random f p ≡ true → (c : Bool) → nat_lt i (slice_index ns p) ≡ c → a.element p i ≡ b.element p i
      by_size r true e = h r (ltb-true i (slice_index ns p) e)
      by_size r false e = is_a.same_numbers p i (past (ltb-false i (slice_index ns p) e)) ∙ sym (is_b.same_numbers p i (past (ltb-false i (slice_index ns p) e)))

      by_random : (c : Bool) → is_random f p ≡ c → a.element p i ≡ b.element p i
      by_random true r = by_size r (nat_lt i (slice_index ns p)) refl
      by_random false r = settled p i r

  read_same : (r : Read) → IsRead f r → IsThere (r ∷ []) → SameRead (shape_at f ns) a b r
  read_same (of_scalar p) is there = by_random (is_random f p) refl
    where
      by_random : (c : Bool) → is_random f p ≡ c → a.element p 0 ≡ b.element p 0
      by_random true r = scalars p r is (there (λ x. property_read x == p) (or_left (p == p) false (eq-eqb p p refl)))
      by_random false r = settled p 0 r
  read_same (of_element p env e) is there = at_index (index_read a env e) refl
    where
      at_index : (z : ℤ) → index_read a env e ≡ z → element_at a p z ≡ element_at b p z
      at_index (pos i) ez = place_same p i is (λ r lt. elements p i r is lt (there (covers (shape_at f ns) (sought_sizes f All) (state_at f ns) p (pos i)) (or_left (covers (shape_at f ns) (sought_sizes f All) (state_at f ns) p (pos i) (of_element p env e)) false (λ k. eq-eqb p p refl k && named lt (is_open (shape_at f ns) (sought_sizes f All) e) refl k))))
        where
          named : i < slice_index ns p → (c : Bool) → is_open (shape_at f ns) (sought_sizes f All) e ≡ c
              → (if is_open (shape_at f ns) (sought_sizes f All) e then has_place (state_at f ns) p (pos i) else int_eq (pos i) (index_read (state_at f ns) env e)) ≡ true
          named lt true o = rw o (lt-ltb i (slice_index ns p) lt)
          named lt false o = rw o (ap (int_eq (pos i)) (sym (sym ez ∙ index_still f ns sound fit fixed a is_a env e o)) ∙ same_int (pos i))
      at_index (negsuc i) ez = refl
  read_same (of_cell p m env first second) is there = at_cell (index_read a env first) (index_read a env second) refl refl
    where
      at_cell : (x y : ℤ) → index_read a env first ≡ x → index_read a env second ≡ y → cell_at a p m x y ≡ cell_at b p m x y
      at_cell (pos i) (pos j) ex ey = in_row (nat_lt j m) refl
        where
          named : nat_lt j m ≡ true → i * m + j < slice_index ns p → (c d : Bool) → is_open (shape_at f ns) (sought_sizes f All) first ≡ c → is_open (shape_at f ns) (sought_sizes f All) second ≡ d
              → (if is_open (shape_at f ns) (sought_sizes f All) first || is_open (shape_at f ns) (sought_sizes f All) second then has_place (state_at f ns) p (pos (i * m + j)) else is_cell_at m (index_read (state_at f ns) env first) (index_read (state_at f ns) env second) (pos (i * m + j))) ≡ true
          named inside lt true d o q = rw o (lt-ltb (i * m + j) (slice_index ns p) lt)
          named inside lt false true o q = rw (o, q) (lt-ltb (i * m + j) (slice_index ns p) lt)
          named inside lt false false o q =
              rw (o, q)
              ((λ k. is_cell_at m (sym (sym ex ∙ index_still f ns sound fit fixed a is_a env first o) k) (sym (sym ey ∙ index_still f ns sound fit fixed a is_a env second q) k) (pos (i * m + j)))
              ∙ (λ k. inside k && same_int (pos (i * m + j)) k))

          in_row : (c : Bool) → nat_lt j m ≡ c → cell_at a p m (pos i) (pos j) ≡ cell_at b p m (pos i) (pos j)
          in_row true e =
              ap (λ v. if nat_lt j m then v else 0)
              (place_same p (i * m + j) is (λ r lt.
              elements p (i * m + j) r is lt
              (there (covers (shape_at f ns) (sought_sizes f All) (state_at f ns) p (pos (i * m + j)))
              (or_left (covers (shape_at f ns) (sought_sizes f All) (state_at f ns) p (pos (i * m + j)) (of_cell p m env first second)) false
              (λ k. eq-eqb p p refl k && named e lt (is_open (shape_at f ns) (sought_sizes f All) first) (is_open (shape_at f ns) (sought_sizes f All) second) refl refl k)))))
          in_row false e = ap (λ c. if c then a.element p (i * m + j) else 0) e ∙ sym (ap (λ c. if c then b.element p (i * m + j) else 0) e)
      at_cell (pos i) (negsuc j) ex ey = refl
      at_cell (negsuc i) y ex ey = refl
  read_same (of_elements p) is there = (
    is_a.same_sizes p (no_size f ns p),
    is_b.same_sizes p (no_size f ns p),
    λ i. place_same p i is (λ r lt.
        elements p i r is lt
        (there (covers (shape_at f ns) (sought_sizes f All) (state_at f ns) p (pos i))
        (or_left (covers (shape_at f ns) (sought_sizes f All) (state_at f ns) p (pos i) (of_elements p)) false (λ k. eq-eqb p p refl k && lt-ltb i (slice_index ns p) lt k)))),
  )
  read_same (of_size p) is there = is_a.same_sizes p (no_size f ns p) ∙ sym (is_b.same_sizes p (no_size f ns p))

  reads_same : (rs : List Read) → AreReads f rs → IsThere rs → AllSame (shape_at f ns) a b rs
  reads_same [] is there = tt
  reads_same (r ∷ rs) is there =
      (read_same r is.0 (λ t h. there t (or_left (t r) (list_any t rs) (only (t r) h))), reads_same rs is.1 (λ t h. there t (or_right (t r) (list_any t rs) h)))
    where
      only : (b : Bool) → (b || false) ≡ true → b ≡ true
      only true h = refl
      only false h = cc

  -- what the occurrence does not mention does not matter to it
  pub unmentioned : AreReads f (reads_of (shape_at f ns) o) → is_true a o ≡ is_true b o
  unmentioned is =
      let sizes = sized f ns sound fit fixed a is_a in
      let more = sized f ns sound fit fixed' b is_b in
      same_truth (shape_at f ns) a b (record { script = λ v. is_a.same_script v ∙ sym (is_b.same_script v); scalar = λ p h. (sizes.same p ∙ sizes.scalar p h, more.same p ∙ more.scalar p h) }) o
      (reads_same (reads_of (shape_at f ns) o) is (λ t h. h))
