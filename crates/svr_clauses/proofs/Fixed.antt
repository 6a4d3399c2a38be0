-- No item of a phase takes an array as a whole whose size the phase looks for: in the phase of sizes no item reads an element of a random array, and in the others no size is looked for.
use Rattle.std.proofs.Common.{◌≡◌, ℕ, suc, ◌-◌, Bool, true, false, not, ◌&&◌, ◌||◌, refl, sym, ◌∙◌, subst, List, [], ◌∷◌, ◌++◌, map, Option, None, Some}
use Rattle.std.specs.Prelude.{⊤, filter, nat_lt, if◌then◌else◌}
use Rattle.std.specs.List.{list_any, flat_map}
use Rattle.std.proofs.lemmas.Bool.{and_parts}
use Rattle.std.proofs.lemmas.List.Folds.{list_any-append}
use Rattle.std.proofs.lemmas.List.Concat.{flat_map-cons}
use Rattle.svr_operator.specs.declared.UnOp.TheVariants as un
use Rattle.svr_typed.specs.ExprTerm.{ExprTerm, typed, NodeTerm, number, prop, element, cell, size, script, loop_index, reduce, of_object, bit_select, part_select, unary, binary, choice, inside, join, copies, sign, ExprTerms, no_exprs, more_exprs, RangeTerm, one, span, RangeTerms, no_ranges, more_ranges, ranges_of, BoundTerm, value, dollar}
use Rattle.svr_typed.specs.ItemTerm.{DistTerm}
use Rattle.svr_eval.specs.Reading.{Reading}
use Rattle.svr_eval.specs.Value.{index_of, property_of, node_property}
use Rattle.svr_frame.specs.declared.part.Part.{Part}
use Rattle.svr_frame.specs.declared.part.Part.TheVariants.{Randc, Sizes, All as Whole}
use Rattle.svr_frame.specs.declared.slot.Slot.{Slot}
use Rattle.svr_frame.specs.declared.slot.Slot.TheVariants.{Scalar, Element, Size}
use Rattle.svr_frame.specs.declared.sought.Sought.TheVariants.{RandomElement}
use Rattle.svr_frame.specs.Frame.{FrameTerm, is_array, is_random, has_free_size, members_of}
use Rattle.svr_frame.specs.Closed.{index_number, closed_within, closed_node, closed_exprs, closed_ranges, closed_range, closed_bound, closed}
use Rattle.svr_frame.specs.Occurrences.{Guard, Fact, stated, dealt, disabled, Occurrence, is_hard, guard_expr, and_also, condition, guarded, closed_members, fact_expr, are_weighed, closed_of}
use Rattle.svr_frame.specs.Reads.{Read, property_read, is_element_read, of_size, reads, dist_reads, fact_reads, guards_read}
use Rattle.svr_frame.specs.Phases.{number_of, among_members, domain_item, shape_at, sought_sizes, mentions_random_element, belongs, active_at, asked_of, is_soft_of, removes, live, live_of}
use Rattle.svr_frame.specs.Finds.{finds, node_finds, finds_in_exprs, finds_in_ranges, finds_in_range, finds_in_bound, finds_in_weight, finds_in_members}
use Rattle.svr_frame.specs.Sound.{IsSound}
use Rattle.svr_frame.proofs.Closing.{property_closed}
use Rattle.svr_frame.proofs.Found.{found, members_found}
use Rattle.svr_frame_laws.proofs.Answers.{scalar_not_free}
use Rattle.svr_frame_laws.proofs.Unmentioned.{none_of}
use Rattle.svr_encoded.specs.Fixed.{MemberIsFixed, IsFixed, NodeIsFixed, AreFixed, RangesAreFixed, RangeIsFixed, BoundIsFixed}
use Rattle.svr_phase.proofs.Preferred.{state_sizes_fit}

-- ---- where no size is looked for, each tree is fixed

module _ (sought : ℕ → Bool) (none : (p : ℕ) → sought p ≡ false) where
  member_fixed : (m : Option ℕ) → MemberIsFixed sought m
  member_fixed None = tt
  member_fixed (Some p) = none p

  mutual
    pub is_fixed : (e : ExprTerm) → IsFixed sought e
    is_fixed (typed w s n) = node_fixed n

    node_fixed : (n : NodeTerm) → NodeIsFixed sought n
    node_fixed (number v every) = tt
    node_fixed (prop p) = tt
    node_fixed (element p e) = is_fixed e
    node_fixed (cell p m first second) = (is_fixed first, is_fixed second)
    node_fixed (size p m) = tt
    node_fixed (script v) = tt
    node_fixed (loop_index k) = tt
    node_fixed (reduce p op body) = (none p, is_fixed body)
    node_fixed (of_object o e) = is_fixed e
    node_fixed (bit_select base first low) = (is_fixed base, is_fixed first)
    node_fixed (part_select base first last low) = (is_fixed base, is_fixed first, is_fixed last)
    node_fixed (unary op e) = is_fixed e
    node_fixed (binary op l r) = (is_fixed l, is_fixed r)
    node_fixed (choice t met unmet) = (is_fixed t, is_fixed met, is_fixed unmet)
    node_fixed (inside l rs) = (is_fixed l, ranges_fixed rs)
    node_fixed (join parts) = all_fixed parts
    node_fixed (copies count parts) = (is_fixed count, all_fixed parts)
    node_fixed (sign signed e) = is_fixed e

    all_fixed : (es : ExprTerms) → AreFixed sought es
    all_fixed no_exprs = tt
    all_fixed (more_exprs e es) = (is_fixed e, all_fixed es)

    ranges_fixed : (rs : RangeTerms) → RangesAreFixed sought rs
    ranges_fixed no_ranges = tt
    ranges_fixed (more_ranges r rs) = (range_fixed r, ranges_fixed rs)

    range_fixed : (r : RangeTerm) → RangeIsFixed sought r
    range_fixed (one e) = (is_fixed e, member_fixed (property_of e))
    range_fixed (span low high) = (bound_fixed low, bound_fixed high)

    bound_fixed : (b : BoundTerm) → BoundIsFixed sought b
    bound_fixed (value e) = is_fixed e
    bound_fixed dollar = tt

-- ---- closed expressions of what reads no element of a random array

module _ (f : FrameTerm) (sound : IsSound f) where
  abbrev sized : ℕ → Bool
  sized = sought_sizes f Sizes

  -- an array whose size is free is random
  not_random : (p : ℕ) → is_random f p ≡ false → has_free_size f p ≡ false
  not_random p h = by_test (has_free_size f p) refl
    where
      by_test : (b : Bool) → has_free_size f p ≡ b → b ≡ false
      by_test true e = absurd (let c : false ≡ true = sym h ∙ (sound.free p e).0 in cc)
      by_test false e = refl

  not_element : (p : ℕ) → (is_array f p && is_random f p) ≡ false → has_free_size f p ≡ false
  not_element p h = by_kind (is_array f p) refl h
    where
      by_kind : (b : Bool) → is_array f p ≡ b → (b && is_random f p) ≡ false → has_free_size f p ≡ false
      by_kind true e k = not_random p k
      by_kind false e k = scalar_not_free f f.state.sizes sound (state_sizes_fit f sound) p e

  member_of : (e : ExprTerm) → finds f RandomElement e ≡ false → MemberIsFixed sized (property_of e)
  member_of (typed w s n) h = by_node n h
    where
      by_node : (n : NodeTerm) → node_finds f RandomElement n ≡ false → MemberIsFixed sized (node_property n)
      by_node (number v every) k = tt
      by_node (prop p) k = not_element p k
      by_node (element p e) k = tt
      by_node (cell p m first second) k = tt
      by_node (size p m) k = tt
      by_node (script v) k = tt
      by_node (loop_index i) k = tt
      by_node (reduce p op body) k = tt
      by_node (of_object o e) k = tt
      by_node (bit_select base first low) k = tt
      by_node (part_select base first last low) k = tt
      by_node (unary op e) k = tt
      by_node (binary op l r) k = tt
      by_node (choice t met unmet) k = tt
      by_node (inside l rs) k = tt
      by_node (join parts) k = tt
      by_node (copies count parts) k = tt
      by_node (sign as_signed e) k = tt

  module _ (env : List ℕ) where
    loop_fixed : (c : Bool) (w : ℕ) (s : Bool) (k i : ℕ) → IsFixed sized (if c then typed w s (loop_index k) else index_number i)
    loop_fixed true w s k i = tt
    loop_fixed false w s k i = tt

    mutual
      pub closed_fixed : (own : ℕ) (e : ExprTerm) → finds f RandomElement e ≡ false → IsFixed sized (closed_within env own e)
      closed_fixed own (typed w s n) h = node_closed own w s n h

      node_closed : (own w : ℕ) (s : Bool) (n : NodeTerm) → node_finds f RandomElement n ≡ false → IsFixed sized (closed_node env own w s n)
      node_closed own w s (number v every) h = tt
      node_closed own w s (prop p) h = tt
      node_closed own w s (element p e) h = closed_fixed own e (none_of (is_random f p) (finds f RandomElement e) h).1
      node_closed own w s (cell p m first second) h =
          let both = none_of (finds f RandomElement first) (finds f RandomElement second) (none_of (is_random f p) (finds f RandomElement first || finds f RandomElement second) h).1 in
          (closed_fixed own first both.0, closed_fixed own second both.1)
      node_closed own w s (size p m) h = tt
      node_closed own w s (script v) h = tt
      node_closed own w s (loop_index k) h = loop_fixed (nat_lt k own) w s k (index_of env (k - own))
      node_closed own w s (reduce p op body) h =
          let two = none_of (is_random f p) (finds f RandomElement body) h in
          (not_random p two.0, closed_fixed (suc own) body two.1)
      node_closed own w s (of_object o e) h = closed_fixed own e h
      node_closed own w s (bit_select base first low) h =
          let two = none_of (finds f RandomElement base) (finds f RandomElement first) h in
          (closed_fixed own base two.0, closed_fixed own first two.1)
      node_closed own w s (part_select base first last low) h =
          let two = none_of (finds f RandomElement base || finds f RandomElement first) (finds f RandomElement last) h in
          let front = none_of (finds f RandomElement base) (finds f RandomElement first) two.0 in
          (closed_fixed own base front.0, closed_fixed own first front.1, closed_fixed own last two.1)
      node_closed own w s (unary op e) h = closed_fixed own e h
      node_closed own w s (binary op l r) h =
          let two = none_of (finds f RandomElement l) (finds f RandomElement r) h in
          (closed_fixed own l two.0, closed_fixed own r two.1)
      node_closed own w s (choice t met unmet) h =
          let two = none_of (finds f RandomElement t || finds f RandomElement met) (finds f RandomElement unmet) h in
          let front = none_of (finds f RandomElement t) (finds f RandomElement met) two.0 in
          (closed_fixed own t front.0, closed_fixed own met front.1, closed_fixed own unmet two.1)
      node_closed own w s (inside l rs) h =
          let two = none_of (finds f RandomElement l) (finds_in_ranges f RandomElement rs) h in
          (closed_fixed own l two.0, ranges_closed own rs two.1)
      node_closed own w s (join parts) h = exprs_closed own parts h
      node_closed own w s (copies count parts) h =
          let two = none_of (finds f RandomElement count) (finds_in_exprs f RandomElement parts) h in
          (closed_fixed own count two.0, exprs_closed own parts two.1)
      node_closed own w s (sign as_signed e) h = closed_fixed own e h

      exprs_closed : (own : ℕ) (es : ExprTerms) → finds_in_exprs f RandomElement es ≡ false → AreFixed sized (closed_exprs env own es)
      exprs_closed own no_exprs h = tt
      exprs_closed own (more_exprs e es) h =
          let two = none_of (finds f RandomElement e) (finds_in_exprs f RandomElement es) h in
          (closed_fixed own e two.0, exprs_closed own es two.1)

      ranges_closed : (own : ℕ) (rs : RangeTerms) → finds_in_ranges f RandomElement rs ≡ false → RangesAreFixed sized (closed_ranges env own rs)
      ranges_closed own no_ranges h = tt
      ranges_closed own (more_ranges r rs) h =
          let two = none_of (finds_in_range f RandomElement r) (finds_in_ranges f RandomElement rs) h in
          (range_closed own r two.0, ranges_closed own rs two.1)

      range_closed : (own : ℕ) (r : RangeTerm) → finds_in_range f RandomElement r ≡ false → RangeIsFixed sized (closed_range env own r)
      range_closed own (one e) h = (closed_fixed own e h, subst (MemberIsFixed sized) (sym (property_closed env own e)) (member_of e h))
      range_closed own (span low high) h =
          let two = none_of (finds_in_bound f RandomElement low) (finds_in_bound f RandomElement high) h in
          (bound_closed own low two.0, bound_closed own high two.1)

      bound_closed : (own : ℕ) (b : BoundTerm) → finds_in_bound f RandomElement b ≡ false → BoundIsFixed sized (closed_bound env own b)
      bound_closed own (value e) h = closed_fixed own e h
      bound_closed own dollar h = tt

    members_closed : (counts : DistTerm → Bool) (ds : List DistTerm) → finds_in_members f RandomElement ds ≡ false → RangesAreFixed sized (ranges_of (closed_members env (filter counts ds)))
    members_closed counts [] h = tt
    members_closed counts (d ∷ ds) h =
        let two = none_of (finds_in_range f RandomElement d.range || finds_in_weight f RandomElement d.weight) (finds_in_members f RandomElement ds) h in
        by_test (counts d) refl (range_closed 0 d.range (none_of (finds_in_range f RandomElement d.range) (finds_in_weight f RandomElement d.weight) two.0).0) (members_closed counts ds two.1)
      where
        by_test : (b : Bool) → counts d ≡ b → RangeIsFixed sized (closed_range env 0 d.range) → RangesAreFixed sized (ranges_of (closed_members env (filter counts ds)))
            → RangesAreFixed sized (ranges_of (closed_members env (filter counts (d ∷ ds))))
        by_test true e first rest = subst (λ (c : Bool). RangesAreFixed sized (ranges_of (closed_members env (if c then d ∷ filter counts ds else filter counts ds)))) (sym e) (first, rest)
        by_test false e first rest = subst (λ (c : Bool). RangesAreFixed sized (ranges_of (closed_members env (if c then d ∷ filter counts ds else filter counts ds)))) (sym e) rest

  -- ---- occurrences that read none

  abbrev reads_one : Read → Bool
  reads_one r = is_element_read r && is_random f (property_read r)

  guard_fixed : (env : List ℕ) (e : ExprTerm) (wanted : Bool) → finds f RandomElement e ≡ false → IsFixed sized (if wanted then closed env e else typed 1 false (unary un.LogicalNot (closed env e)))
  guard_fixed env e true h = closed_fixed env 0 e h
  guard_fixed env e false h = closed_fixed env 0 e h

  abbrev ConditionIsFixed : Option ExprTerm → Type 0
  ConditionIsFixed None = ⊤
  ConditionIsFixed (Some c) = IsFixed sized c

  and_fixed : (o : Option ExprTerm) (x : ExprTerm) → ConditionIsFixed o → IsFixed sized x → IsFixed sized (and_also o x)
  and_fixed None x h k = k
  and_fixed (Some c) x h k = (h, k)

  guarded_fixed : (o : Option ExprTerm) (x : ExprTerm) → ConditionIsFixed o → IsFixed sized x → IsFixed sized (guarded o x)
  guarded_fixed None x h k = k
  guarded_fixed (Some c) x h k = (h, k)

  module _ (ns : List ℕ) where
    none_found : (env : List ℕ) (e : ExprTerm) → list_any reads_one (reads (shape_at f ns) env e) ≡ false → finds f RandomElement e ≡ false
    none_found env e h = sym (found f ns RandomElement env e) ∙ h

    condition_fixed : (gs : List Guard) → list_any reads_one (guards_read (shape_at f ns) gs) ≡ false → ConditionIsFixed (condition gs)
    condition_fixed [] h = tt
    condition_fixed (g ∷ gs) h =
        let two = none_of (list_any reads_one (reads (shape_at f ns) g.env g.test)) (list_any reads_one (guards_read (shape_at f ns) gs))
        (sym (list_any-append reads_one (reads (shape_at f ns) g.env g.test) (guards_read (shape_at f ns) gs)) ∙ h) in
        and_fixed (condition gs) (guard_expr g) (condition_fixed gs two.1) (guard_fixed g.env g.test g.wanted (none_found g.env g.test two.0))

    fact_fixed : (st : Reading) (env : List ℕ) (x : Fact) → list_any reads_one (fact_reads (shape_at f ns) env x) ≡ false → IsFixed sized (fact_expr (are_weighed st) env x)
    fact_fixed st env (stated e) h = closed_fixed env 0 e (none_found env e h)
    fact_fixed st env (dealt e ds) h =
        let two = none_of (list_any reads_one (reads (shape_at f ns) env e)) (list_any reads_one (dist_reads (shape_at f ns) env ds))
        (sym (list_any-append reads_one (reads (shape_at f ns) env e) (dist_reads (shape_at f ns) env ds)) ∙ h) in
        (closed_fixed env 0 e (none_found env e two.0), members_closed env (are_weighed st env) ds (sym (members_found f ns RandomElement env ds) ∙ two.1))
    fact_fixed st env (disabled target) h = tt

    occurrence_fixed : (st : Reading) (o : Occurrence) → mentions_random_element f ns o ≡ false → IsFixed sized (closed_of st o)
    occurrence_fixed st o h =
        let facts = fact_reads (shape_at f ns) o.place.env o.fact in
        let tests = guards_read (shape_at f ns) o.place.guards in
        let front = none_of (list_any reads_one (facts ++ tests)) (list_any reads_one (map of_size o.place.over)) (sym (list_any-append reads_one (facts ++ tests) (map of_size o.place.over)) ∙ h) in
        let both = none_of (list_any reads_one facts) (list_any reads_one tests) (sym (list_any-append reads_one facts tests) ∙ front.0) in
        guarded_fixed (condition o.place.guards) (fact_expr (are_weighed st) o.place.env o.fact) (condition_fixed o.place.guards both.1) (fact_fixed st o.place.env o.fact both.0)

-- ---- lists of occurrences

abbrev pub AllFixed : (ℕ → Bool) → Reading → List Occurrence → Type 0
AllFixed sought st [] = ⊤
AllFixed sought st (o ∷ os) = IsFixed sought (closed_of st o) × AllFixed sought st os

fixed_append : (sought : ℕ → Bool) (st : Reading) (os ps : List Occurrence) → AllFixed sought st os → AllFixed sought st ps → AllFixed sought st (os ++ ps)
fixed_append sought st [] ps h k = k
fixed_append sought st (o ∷ os) ps h k = (h.0, fixed_append sought st os ps h.1 k)

all_are_fixed : (sought : ℕ → Bool) (st : Reading) → ((p : ℕ) → sought p ≡ false) → (os : List Occurrence) → AllFixed sought st os
all_are_fixed sought st none [] = tt
all_are_fixed sought st none (o ∷ os) = (is_fixed sought none (closed_of st o), all_are_fixed sought st none os)

fixed_kept : (sought : ℕ → Bool) (st : Reading) (t : Occurrence → Bool) → ((o : Occurrence) → t o ≡ true → IsFixed sought (closed_of st o)) → (os : List Occurrence) → AllFixed sought st (filter t os)
fixed_kept sought st t k [] = tt
fixed_kept sought st t k (o ∷ os) = by_test (t o) refl (fixed_kept sought st t k os)
  where
    by_test : (b : Bool) → t o ≡ b → AllFixed sought st (filter t os) → AllFixed sought st (filter t (o ∷ os))
    by_test true e rest = subst (λ (c : Bool). AllFixed sought st (if c then o ∷ filter t os else filter t os)) (sym e) (k o e, rest)
    by_test false e rest = subst (λ (c : Bool). AllFixed sought st (if c then o ∷ filter t os else filter t os)) (sym e) rest

-- an enum takes only its members, and these are numbers
module _ (f : FrameTerm) (sought : ℕ → Bool) (st : Reading) where
  numbers_fixed : (p : ℕ) (vs : List ℕ) → RangesAreFixed sought (closed_ranges [] 0 (ranges_of (map (λ v. one (number_of f p (number v false))) vs)))
  numbers_fixed p [] = tt
  numbers_fixed p (v ∷ vs) = ((tt, tt), numbers_fixed p vs)

  among_fixed : (p : ℕ) (n : NodeTerm) → IsFixed sought (closed [] (number_of f p n)) → (o : Option (List ℕ)) → AllFixed sought st (among_members f p n o)
  among_fixed p n h None = tt
  among_fixed p n h (Some vs) = ((h, numbers_fixed p vs), tt)

  domain_fixed : (s : Slot) → AllFixed sought st (domain_item f s)
  domain_fixed (Scalar p) = among_fixed p (prop p) tt (members_of f p)
  domain_fixed (Element p i) = among_fixed p (element p (index_number i)) tt (members_of f p)
  domain_fixed (Size p) = tt

  pub domains_fixed : (ss : List Slot) → AllFixed sought st (flat_map (domain_item f) ss)
  domains_fixed [] = tt
  domains_fixed (s ∷ ss) =
      subst (AllFixed sought st) (sym (flat_map-cons (domain_item f) s ss)) (fixed_append sought st (domain_item f s) (flat_map (domain_item f) ss) (domain_fixed s) (domains_fixed ss))

-- ---- the items of each phase

module _ (f : FrameTerm) (sound : IsSound f) (ns : List ℕ) (st : Reading) where
  not_true : (b : Bool) → not b ≡ true → b ≡ false
  not_true true h = cc
  not_true false h = refl

  -- what belongs to the phase of sizes
  in_sizes : (o : Occurrence) → belongs f Sizes ns o ≡ true → IsFixed (sought_sizes f Sizes) (closed_of st o)
  in_sizes o h = occurrence_fixed f sound ns st o (not_true (mentions_random_element f ns o) (and_parts (not (mentions_random_element f ns o)) _ h).0)

  pub asked_fixed : (part : Part) → AllFixed (sought_sizes f part) st (asked_of f part ns)
  asked_fixed Randc = all_are_fixed (sought_sizes f Randc) st (λ p. refl) (asked_of f Randc ns)
  asked_fixed Sizes = fixed_kept (sought_sizes f Sizes) st (λ o. is_hard o && belongs f Sizes ns o) (λ o h. in_sizes o (and_parts (is_hard o) (belongs f Sizes ns o) h).1) (active_at f ns)
  asked_fixed Whole = all_are_fixed (sought_sizes f Whole) st (λ p. refl) (asked_of f Whole ns)

  live_sizes : (os : List Occurrence) → AllFixed (sought_sizes f Sizes) st (live f Sizes ns os)
  live_sizes [] = tt
  live_sizes (o ∷ os) =
      fixed_append (sought_sizes f Sizes) st (live f Sizes ns os) (if is_soft_of f Sizes ns o && not (list_any (λ d. removes f Sizes ns d o) os) then o ∷ [] else []) (live_sizes os)
      (last (is_soft_of f Sizes ns o && not (list_any (λ d. removes f Sizes ns d o) os)) refl)
    where
      last : (b : Bool) → (is_soft_of f Sizes ns o && not (list_any (λ d. removes f Sizes ns d o) os)) ≡ b → AllFixed (sought_sizes f Sizes) st (if b then o ∷ [] else [])
      last true e = (in_sizes o (and_parts o.soft (belongs f Sizes ns o) (and_parts (is_soft_of f Sizes ns o) (not (list_any (λ d. removes f Sizes ns d o) os)) e).0).1, tt)
      last false e = tt

  pub live_fixed : (part : Part) → AllFixed (sought_sizes f part) st (live_of f part ns)
  live_fixed Randc = all_are_fixed (sought_sizes f Randc) st (λ p. refl) (live_of f Randc ns)
  live_fixed Sizes = live_sizes (active_at f ns)
  live_fixed Whole = all_are_fixed (sought_sizes f Whole) st (λ p. refl) (live_of f Whole ns)
