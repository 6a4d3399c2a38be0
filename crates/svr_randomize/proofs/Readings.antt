-- Two frames that differ in the state alone, and read the same numbers, close the items of the last phase alike.
use Rattle.std.proofs.Common.{◌≡◌, ◌<◌, ◌^◌, ◌==◌, ◌+◌, ◌*◌, ℕ, ℤ, pos, negsuc, Bool, true, false, not, ◌&&◌, ◌||◌, refl, sym, ◌∙◌, ap, List, [], ◌∷◌, ◌++◌, map, Option, None, Some, arith}
use Rattle.std.specs.Prelude.{⊤, filter, nat_lt, slice_index, slice_index_or, if◌then◌else◌}
use Rattle.std.specs.List.{list_any, flat_map}
use Rattle.std.specs.Ordering.{int_eq}
use Rattle.std.proofs.lemmas.Bool.{ltb-true}
use Rattle.std.proofs.lemmas.List.Concat.{flat_map-cons}
use Rattle.svr_num.specs.Num.{read_of}
use Rattle.svr_typed.specs.ExprTerm.{ExprTerm, typed, NodeTerm, number, prop, element, cell, size, script, loop_index, reduce, of_object, bit_select, part_select, unary, binary, choice, inside, join, copies, sign, ranges_of}
use Rattle.svr_typed.specs.ItemTerm.{DistTerm}
use Rattle.svr_eval.specs.declared.assign.Assign.{Assign}
use Rattle.svr_eval.specs.Reading.{Reading, reading_of}
use Rattle.svr_eval.specs.Value.{element_at, cell_at, index_read, is_set, size_of, sign_of}
use Rattle.svr_frame.specs.declared.part.Part.TheVariants.{All as Whole}
use Rattle.svr_frame.specs.declared.slot.Slot.{Slot}
use Rattle.svr_frame.specs.declared.slot.Slot.TheVariants.{Scalar, Element, Size}
use Rattle.svr_frame.specs.Frame.{FrameTerm, is_random, members_of, state_at, state_sizes, width_of}
use Rattle.svr_frame.specs.Closed.{closed, index_number}
use Rattle.svr_frame.specs.Occurrences.{Guard, Fact, stated, dealt, disabled, Occurrence, are_met, is_hard, condition, guarded, closed_members, fact_expr, are_weighed, closed_of}
use Rattle.svr_frame.specs.Reads.{Read, of_scalar, of_element, of_cell, of_elements, of_size, property_read, is_size_read, reads, reads_of, has_place, is_cell_at, covers, is_open, mentions_element}
use Rattle.svr_frame.specs.Phases.{unknowns_of, among_members, domain_item, domain_items, size_items, sought_sizes, belongs, shape_at, active_at, asked_of, hard_of, is_named_by_cell, is_named_by, is_soft_of, removes, live, live_of}
use Rattle.svr_frame.specs.Satisfaction.{is_at, AllFit, IsAssignment}
use Rattle.svr_frame.specs.Sound.{IsSound, SizesFit, stands_still, node_stands_still}
use Rattle.svr_frame.proofs.Blind.{any_reads}
use Rattle.svr_frame_laws.proofs.Answers.{scalar_one}
use Rattle.svr_frame_laws.proofs.Mentions.{SameRead, AllSame, SameAround, val_same}
use Rattle.svr_frame_laws.proofs.Truth.{SameWeights, FactSameWeights}
use Rattle.svr_frame_laws.proofs.Unmentioned.{not_sought, none_of, not_true, index_still}
use Rattle.svr_frame_laws.proofs.Standing.{AllAreIn, active_in, fact_weights, state_alone}
use Rattle.svr_randomize.specs.Kept.{with_state}
use Rattle.svr_randomize.proofs.Unknowns.{sought}
use Rattle.svr_randomize.proofs.Disables.{AreOfState, DisableStands, AllDisablesStand, active_stand}

-- ---- closed expressions in two readings

module _ (a b : Reading) where
  same_members : (env : List ℕ) (ds : List DistTerm) → SameWeights a b env ds → filter (are_weighed a env) ds ≡ filter (are_weighed b env) ds
  same_members env [] h = refl
  same_members env (d ∷ ds) h = λ k. if h.0 k then d ∷ same_members env ds h.1 k else same_members env ds h.1 k

  same_fact : (env : List ℕ) (x : Fact) → FactSameWeights a b env x → fact_expr (are_weighed a) env x ≡ fact_expr (are_weighed b) env x
  same_fact env (stated e) h = refl
  same_fact env (dealt e ds) h = ap (λ (xs : List DistTerm). typed 1 false (inside (closed env e) (ranges_of (closed_members env xs)))) (same_members env ds h)
  same_fact env (disabled target) h = refl

  same_closed : (o : Occurrence) → FactSameWeights a b o.place.env o.fact → closed_of a o ≡ closed_of b o
  same_closed o h = ap (guarded (condition o.place.guards)) (same_fact o.place.env o.fact h)

  abbrev AreSame : List Occurrence → Type 0
  AreSame [] = ⊤
  AreSame (o ∷ os) = (closed_of a o ≡ closed_of b o) × AreSame os

  same_list : (os : List Occurrence) → AreSame os → map (closed_of a) os ≡ map (closed_of b) os
  same_list [] h = refl
  same_list (o ∷ os) h = λ k. h.0 k ∷ same_list os h.1 k

  same_append : (os ps : List Occurrence) → AreSame os → AreSame ps → AreSame (os ++ ps)
  same_append [] ps h k = k
  same_append (o ∷ os) ps h k = (h.0, same_append os ps h.1 k)

  same_filter : (t : Occurrence → Bool) (os : List Occurrence) → AreSame os → AreSame (filter t os)
  same_filter t [] h = tt
  same_filter t (o ∷ os) h = by_test (t o) refl (same_filter t os h.1)
    where
      by_test : (c : Bool) → t o ≡ c → AreSame (filter t os) → AreSame (filter t (o ∷ os))
      by_test true e rest = rw e (h.0, rest)
      by_test false e rest = rw e rest

  module _ (f : FrameTerm) where
    among_same : (p : ℕ) (n : NodeTerm) (vs : Option (List ℕ)) → AreSame (among_members f p n vs)
    among_same p n None = tt
    among_same p n (Some vs) = (refl, tt)

    domain_same : (s : Slot) → AreSame (domain_item f s)
    domain_same (Scalar p) = among_same p (prop p) (members_of f p)
    domain_same (Element p i) = among_same p (element p (index_number i)) (members_of f p)
    domain_same (Size p) = tt

    domains_same : (ss : List Slot) → AreSame (flat_map (domain_item f) ss)
    domains_same [] = tt
    domains_same (s ∷ ss) = rw (flat_map-cons (domain_item f) s ss) (same_append (domain_item f s) (flat_map (domain_item f) ss) (domain_same s) (domains_same ss))

    live_same : (ns : List ℕ) (os : List Occurrence) → AreSame os → AreSame (live f Whole ns os)
    live_same ns [] h = tt
    live_same ns (o ∷ os) h =
        same_append (live f Whole ns os) (if is_soft_of f Whole ns o && not (list_any (λ d. removes f Whole ns d o) os) then o ∷ [] else []) (live_same ns os h.1)
        (last (is_soft_of f Whole ns o && not (list_any (λ d. removes f Whole ns d o) os)))
      where
        last : (c : Bool) → AreSame (if c then o ∷ [] else [])
        last true = (h.0, tt)
        last false = tt

-- ---- a frame, and one that differs in the state alone

module _ (f : FrameTerm) (s : Assign) (free : List Bool) (ns : List ℕ) (sound : IsSound f) (fit : SizesFit f ns) (there : IsSound (with_state f s free))
    (numbers : (p : ℕ) → slice_index_or f.random p false ≡ false → slice_index_or s.values p [] ≡ slice_index_or f.state.values p []) (scripts : s.script ≡ f.state.script) where
  abbrev pub g : FrameTerm
  g = with_state f s free

  -- what is not looked for is the same
  pub settled : (p i : ℕ) → list_any (is_at p i) (unknowns_of f Whole ns) ≡ false → (state_at g ns).element p i ≡ (state_at f ns).element p i
  settled p i none = by_size (nat_lt i (slice_index ns p)) refl
    where
      by_random : i < slice_index ns p → (b : Bool) → is_random f p ≡ b → (reading_of s).element p i ≡ (reading_of f.state).element p i
      by_random below true r = absurd (let no : true ≡ false = sym (sought f ns sound fit p i r below) ∙ none in cc)
      by_random below false r = ap (λ (xs : List ℕ). slice_index xs i) (numbers p r)

      by_size : (b : Bool) → nat_lt i (slice_index ns p) ≡ b → (if b then (reading_of s).element p i else 0) ≡ (if b then (reading_of f.state).element p i else 0)
      by_size true e = by_random (ltb-true i (slice_index ns p) e) (is_random f p) refl
      by_size false e = refl

  fits_at : (p i : ℕ) (b : Bool) → (if b then (reading_of s).element p i else 0) < 2 ^ width_of f p
  fits_at p i true = there.state.below p i
  fits_at p i false = omega (arith, there.state.below p i)

  all_fit : (ss : List Slot) → AllFit f (state_at g ns) ss
  all_fit [] = tt
  all_fit (Scalar p ∷ ss) = (fits_at p 0 (nat_lt 0 (slice_index ns p)), all_fit ss)
  all_fit (Element p i ∷ ss) = (fits_at p i (nat_lt i (slice_index ns p)), all_fit ss)
  all_fit (Size p ∷ ss) = (omega (arith, fit.most p), all_fit ss)

  -- the other state is an assignment of the phase
  other_is : IsAssignment f Whole ns [] (state_at g ns)
  other_is = record {
    fits = all_fit (unknowns_of f Whole ns);
    same_numbers = settled;
    same_sizes = λ p h. refl;
    same_script = λ v. ap (λ (xs : List ℕ). slice_index xs v) scripts;
    chosen = tt;
  }

  -- ---- closed expressions

  all_same : (os : List Occurrence) → AllAreIn f os → AreSame (state_at f ns) (state_at g ns) os
  all_same [] h = tt
  all_same (o ∷ os) h = (same_closed (state_at f ns) (state_at g ns) o (fact_weights f ns sound fit Whole [] (state_at g ns) other_is o.place.env o.fact h.0.1), all_same os h.1)

  active_same : AreSame (state_at f ns) (state_at g ns) (active_at f ns)
  active_same = all_same (active_at f ns) (active_in f ns sound)

  pub hard_closed : map (closed_of (state_at f ns)) (hard_of f Whole ns) ≡ map (closed_of (state_at g ns)) (hard_of f Whole ns)
  hard_closed =
      same_list (state_at f ns) (state_at g ns) (hard_of f Whole ns)
      (same_append (state_at f ns) (state_at g ns) (domain_items f Whole ns ++ size_items f Whole) (asked_of f Whole ns)
      (same_append (state_at f ns) (state_at g ns) (domain_items f Whole ns) (size_items f Whole) (domains_same (state_at f ns) (state_at g ns) f (unknowns_of f Whole ns)) tt)
      (same_filter (state_at f ns) (state_at g ns) (λ o. is_hard o && belongs f Whole ns o) (active_at f ns) active_same))

  pub live_closed : map (closed_of (state_at f ns)) (live_of f Whole ns) ≡ map (closed_of (state_at g ns)) (live_of f Whole ns)
  live_closed = same_list (state_at f ns) (state_at g ns) (live_of f Whole ns) (live_same (state_at f ns) (state_at g ns) f ns (active_at f ns) active_same)

  -- ---- indexes

  abbrev moving : Read → Bool
  moving r = not (is_size_read r) && is_random f (property_read r)

  around : SameAround (shape_at f ns) (state_at g ns) (state_at f ns)
  around = record { script = other_is.same_script; scalar = λ p h. (scalar_one f ns sound fit p h, scalar_one f ns sound fit p h) }

  still_read : (r : Read) → moving r ≡ false → SameRead (shape_at f ns) (state_at g ns) (state_at f ns) r
  still_read (of_scalar p) h = settled p 0 (not_sought f ns Whole p 0 h)
  still_read (of_element p env e) h = at_index (index_read (state_at g ns) env e)
    where
      at_index : (z : ℤ) → element_at (state_at g ns) p z ≡ element_at (state_at f ns) p z
      at_index (pos i) = settled p i (not_sought f ns Whole p i h)
      at_index (negsuc i) = refl
  still_read (of_cell p m env first second) h = at_cell (index_read (state_at g ns) env first) (index_read (state_at g ns) env second)
    where
      at_cell : (x y : ℤ) → cell_at (state_at g ns) p m x y ≡ cell_at (state_at f ns) p m x y
      at_cell (pos i) (pos j) = ap (λ v. if nat_lt j m then v else 0) (settled p (i * m + j) (not_sought f ns Whole p (i * m + j) h))
      at_cell (pos i) (negsuc j) = refl
      at_cell (negsuc i) y = refl
  still_read (of_elements p) h = (refl, refl, λ i. settled p i (not_sought f ns Whole p i h))
  still_read (of_size p) h = refl

  still_reads : (rs : List Read) → list_any moving rs ≡ false → AllSame (shape_at f ns) (state_at g ns) (state_at f ns) rs
  still_reads [] h = tt
  still_reads (r ∷ rs) h = let two = none_of (moving r) (list_any moving rs) h in (still_read r two.0, still_reads rs two.1)

  -- an index that stands still
  same_index : (env : List ℕ) (e : ExprTerm) → stands_still f e ≡ true → index_read (state_at g ns) env e ≡ index_read (state_at f ns) env e
  same_index env e h =
      let none = sym (any_reads (shape_at f ns) (shape_at f ns) (λ p. refl) moving (λ p x y u v. refl, λ p m x y u v u' v'. refl) [] [] env 0 e)
      ∙ any_reads (shape_at f ns) (shape_at f (state_sizes f)) (λ p. refl) moving (λ p x y u v. refl, λ p m x y u v u' v'. refl) [] [] [] 0 e
      ∙ not_true (list_any moving (reads (shape_at f (state_sizes f)) [] e)) h in
      ap (read_of (sign_of e) (size_of e)) (val_same (shape_at f ns) (state_at g ns) (state_at f ns) around env e (still_reads (reads (shape_at f ns) env e) none) (size_of e) (sign_of e))

  -- one that is not open
  closed_index : (env : List ℕ) (e : ExprTerm) → is_open (shape_at f ns) (sought_sizes f Whole) e ≡ false → index_read (state_at g ns) env e ≡ index_read (state_at f ns) env e
  closed_index env e h = index_still f ns sound fit [] (state_at g ns) other_is env e h

  -- ---- what is mentioned

  same_place : (p : ℕ) (z : ℤ) → has_place (state_at g ns) p z ≡ has_place (state_at f ns) p z
  same_place p (pos i) = refl
  same_place p (negsuc i) = refl

  same_covers : (p : ℕ) (z : ℤ) (r : Read) → covers (shape_at f ns) (sought_sizes f Whole) (state_at g ns) p z r ≡ covers (shape_at f ns) (sought_sizes f Whole) (state_at f ns) p z r
  same_covers p z (of_scalar q) = refl
  same_covers p z (of_element q env e) = ap (λ b. (p == q) && b) (by_open (is_open (shape_at f ns) (sought_sizes f Whole) e) refl)
    where
      by_open : (b : Bool) → is_open (shape_at f ns) (sought_sizes f Whole) e ≡ b
          → (if b then has_place (state_at g ns) p z else int_eq z (index_read (state_at g ns) env e)) ≡ (if b then has_place (state_at f ns) p z else int_eq z (index_read (state_at f ns) env e))
      by_open true k = same_place p z
      by_open false k = ap (int_eq z) (closed_index env e k)
  same_covers p z (of_cell q m env first second) = ap (λ b. (p == q) && b) (by_open (is_open (shape_at f ns) (sought_sizes f Whole) first || is_open (shape_at f ns) (sought_sizes f Whole) second) refl)
    where
      by_open : (b : Bool) → (is_open (shape_at f ns) (sought_sizes f Whole) first || is_open (shape_at f ns) (sought_sizes f Whole) second) ≡ b
          → (if b then has_place (state_at g ns) p z else is_cell_at m (index_read (state_at g ns) env first) (index_read (state_at g ns) env second) z)
          ≡ (if b then has_place (state_at f ns) p z else is_cell_at m (index_read (state_at f ns) env first) (index_read (state_at f ns) env second) z)
      by_open true k = same_place p z
      by_open false k =
          let two = none_of (is_open (shape_at f ns) (sought_sizes f Whole) first) (is_open (shape_at f ns) (sought_sizes f Whole) second) k in
          λ j. is_cell_at m (closed_index env first two.0 j) (closed_index env second two.1 j) z
  same_covers p z (of_elements q) = ap (λ b. (p == q) && b) (same_place p z)
  same_covers p z (of_size q) = refl

  same_any : (p : ℕ) (z : ℤ) (rs : List Read) → list_any (covers (shape_at f ns) (sought_sizes f Whole) (state_at g ns) p z) rs ≡ list_any (covers (shape_at f ns) (sought_sizes f Whole) (state_at f ns) p z) rs
  same_any p z [] = refl
  same_any p z (r ∷ rs) = λ k. same_covers p z r k || same_any p z rs k

  same_mention : (p : ℕ) (z y : ℤ) (o : Occurrence) → z ≡ y → mentions_element (shape_at f ns) (sought_sizes f Whole) (state_at g ns) p z o ≡ mentions_element (shape_at f ns) (sought_sizes f Whole) (state_at f ns) p y o
  same_mention p z y o e = ap (λ (x : ℤ). mentions_element (shape_at f ns) (sought_sizes f Whole) (state_at g ns) p x o) e ∙ same_any p y (reads_of (shape_at f ns) o)

  same_cell : (p m : ℕ) (x y : ℤ) (o : Occurrence) → is_named_by_cell g Whole ns p m x y o ≡ is_named_by_cell f Whole ns p m x y o
  same_cell p m (pos i) (pos j) o = ap (λ b. nat_lt j m && b) (same_mention p (pos (i * m + j)) (pos (i * m + j)) o refl)
  same_cell p m (pos i) (negsuc j) o = refl
  same_cell p m (negsuc i) y o = refl

  same_named : (env : List ℕ) (n : NodeTerm) → node_stands_still f n ≡ true → (o : Occurrence) → is_named_by g Whole ns env n o ≡ is_named_by f Whole ns env n o
  same_named env (number v every) h o = refl
  same_named env (prop p) h o = refl
  same_named env (element p e) h o = same_mention p (index_read (state_at g ns) env e) (index_read (state_at f ns) env e) o (same_index env e h)
  same_named env (cell p m first second) h o =
      let two = both_still (stands_still f first) (stands_still f second) h in
      (λ j. is_named_by_cell g Whole ns p m (same_index env first two.0 j) (same_index env second two.1 j) o) ∙ same_cell p m (index_read (state_at f ns) env first) (index_read (state_at f ns) env second) o
    where
      both_still : (b c : Bool) → (b && c) ≡ true → (b ≡ true) × (c ≡ true)
      both_still true c e = (refl, e)
      both_still false c e = cc
  same_named env (size p m) h o = refl
  same_named env (script v) h o = refl
  same_named env (loop_index k) h o = refl
  same_named env (reduce p op body) h o = refl
  same_named env (of_object q e) h o = refl
  same_named env (bit_select base first low) h o = refl
  same_named env (part_select base first last low) h o = refl
  same_named env (unary op e) h o = refl
  same_named env (binary op l r) h o = refl
  same_named env (choice t met unmet) h o = refl
  same_named env (inside l rs) h o = refl
  same_named env (join parts) h o = refl
  same_named env (copies count parts) h o = refl
  same_named env (sign as_signed e) h o = refl

  -- ---- live soft items

  same_tests : (gs : List Guard) → AreOfState f gs → are_met (state_at g ns) gs ≡ are_met (state_at f ns) gs
  same_tests [] h = refl
  same_tests (x ∷ gs) h =
      let same = state_alone f ns sound fit Whole [] (state_at g ns) other_is x.env x.test h.0 in
      λ k. (if x.wanted then is_set (same k) else not (is_set (same k))) && same_tests gs h.1 k

  same_removes : (d o : Occurrence) → DisableStands f d → removes g Whole ns d o ≡ removes f Whole ns d o
  same_removes d o h = by_fact d.fact h
    where
      by_fact : (x : Fact) → DisableStands f (record d { fact = x }) → removes g Whole ns (record d { fact = x }) o ≡ removes f Whole ns (record d { fact = x }) o
      by_fact (stated e) k = refl
      by_fact (dealt e ds) k = refl
      by_fact (disabled (typed w t n)) k = λ j. same_tests d.place.guards k.0 j && same_named d.place.env n k.1 o j

  any_removes : (o : Occurrence) (os : List Occurrence) → AllDisablesStand f os → list_any (λ d. removes g Whole ns d o) os ≡ list_any (λ d. removes f Whole ns d o) os
  any_removes o [] h = refl
  any_removes o (d ∷ os) h = λ k. same_removes d o h.0 k || any_removes o os h.1 k

  same_live : (os : List Occurrence) → AllDisablesStand f os → live g Whole ns os ≡ live f Whole ns os
  same_live [] h = refl
  same_live (o ∷ os) h = λ k. same_live os h.1 k ++ (if o.soft && not (any_removes o os h.1 k) then o ∷ [] else [])

  pub live_there : live_of g Whole ns ≡ live_of f Whole ns
  live_there = same_live (active_at f ns) (active_stand f ns sound)

  -- ---- hard items

  domain_there : (x : Slot) → domain_item g x ≡ domain_item f x
  domain_there (Scalar p) = refl
  domain_there (Element p i) = refl
  domain_there (Size p) = refl

  pub hard_there : hard_of g Whole ns ≡ hard_of f Whole ns
  hard_there = λ k. flat_map (λ (x : Slot). domain_there x k) (unknowns_of f Whole ns) ++ size_items f Whole ++ asked_of f Whole ns
