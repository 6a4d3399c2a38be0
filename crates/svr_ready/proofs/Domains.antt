-- The closed expressions of the domain items, of the hard ones among the active items and of the live soft ones are ready in each phase; in the last one those are all its items.
use Rattle.std.proofs.Common.{◌≡◌, ◌<◌, ◌≤◌, ◌==◌, ◌^◌, ℕ, zero, suc, ◌+◌, Bool, true, false, not, ◌&&◌, refl, sym, ◌∙◌, ap, subst, List, [], ◌∷◌, ◌++◌, map, length, Option, None, Some, arith}
use Rattle.std.specs.Prelude.{⊤, filter, slice_index, slice_index_or, if◌then◌else◌}
use Rattle.std.specs.List.{list_any, flat_map, range_with_len, All}
use Rattle.std.proofs.lemmas.Bool.{and_parts}
use Rattle.std.proofs.lemmas.List.Elements.{All-head, All-tail}
use Rattle.std.proofs.lemmas.List.Concat.{flat_map-cons}
use Rattle.svr_operator.specs.declared.Rand.TheVariants as rand
use Rattle.svr_limits.specs.declared.limit.TheConstants.{ELEMENT_LIMIT}
use Rattle.svr_typed.specs.declared.class.Prop.{Prop}
use Rattle.svr_typed.specs.declared.class.EnumType.{EnumType}
use Rattle.svr_typed.specs.declared.class.EnumMember.{EnumMember}
use Rattle.svr_typed.specs.ExprTerm.{ExprTerm, typed, NodeTerm, number, prop, element, inside, one, RangeTerms, ranges_of}
use Rattle.svr_eval.specs.Reading.{Reading}
use Rattle.svr_eval.specs.Typed.{IsTyped, NodeIsTyped, RangesAreTyped, CanRead, NodeCanRead, RangesCanRead}
use Rattle.svr_frame.specs.declared.part.Part.{Part}
use Rattle.svr_frame.specs.declared.part.Part.TheVariants.{Randc, Sizes, All as Whole}
use Rattle.svr_frame.specs.declared.slot.Slot.{Slot}
use Rattle.svr_frame.specs.declared.slot.Slot.TheVariants.{Scalar, Element, Size}
use Rattle.svr_frame.specs.Frame.{FrameTerm, is_scalar_kind, is_randc, is_scalar, is_array, is_random, is_cyclic, has_free_size, width_of, is_signed, members_of_enum, members_of_kind, members_of, props_of, state_at}
use Rattle.svr_frame.specs.Closed.{index_number}
use Rattle.svr_frame.specs.Occurrences.{Occurrence, is_hard}
use Rattle.svr_frame.specs.Phases.{cyclic_slots, size_slots, scalar_slots, element_slots, is_random_array, unknowns_of, number_of, fact_item, among_members, domain_item, domain_items, belongs, active_at, asked_of, hard_of, is_soft_of, removes, live, live_of}
use Rattle.svr_frame.specs.Satisfaction.{IsAssignment}
use Rattle.svr_frame.specs.Sound.{IsEnum, IsProp, IsOfEnum, NodeIsIn, RangesAreIn, IsSound, SizesFit}
use Rattle.svr_frame_laws.proofs.Answers.{any_prop, found}
use Rattle.svr_frame_laws.proofs.Readable.{number_fits, items_can_read}
use Rattle.svr_ready.specs.Ready.{IsReady, AreReady}
use Rattle.svr_ready.proofs.Ready.{closed_ready, OccurrenceIsReady, occurrence_ready, AllAreReady, ready_kept, active_ready}

any_enum : EnumType
any_enum = record { base = record { width = 1; signed = false; members = None }; members = [] }

width_at : (xs : List Prop) (p : ℕ) → p < length xs → slice_index (map (λ (x : Prop). x.kind.width) xs) p ≡ (slice_index_or xs p any_prop).kind.width
width_at [] p h = absurd (omega (arith, h))
width_at (x ∷ xs) zero h = refl
width_at (x ∷ xs) (suc p) h = width_at xs p (omega (arith, h))

scalar_at : (xs : List Prop) (p : ℕ) → p < length xs → slice_index_or (map (λ (x : Prop). is_scalar_kind x.array) xs) p false ≡ is_scalar_kind (slice_index_or xs p any_prop).array
scalar_at [] p h = absurd (omega (arith, h))
scalar_at (x ∷ xs) zero h = refl
scalar_at (x ∷ xs) (suc p) h = scalar_at xs p (omega (arith, h))

members_at : (xs : List Prop) (p : ℕ) → p < length xs → slice_index_or (map (λ (x : Prop). x.kind.members) xs) p None ≡ (slice_index_or xs p any_prop).kind.members
members_at [] p h = absurd (omega (arith, h))
members_at (x ∷ xs) zero h = refl
members_at (x ∷ xs) (suc p) h = members_at xs p (omega (arith, h))

base_at : (ts : List EnumType) (e : ℕ) → e < length ts → slice_index (map (λ (t : EnumType). t.base.width) ts) e ≡ (slice_index_or ts e any_enum).base.width
base_at [] e h = absurd (omega (arith, h))
base_at (t ∷ ts) zero h = refl
base_at (t ∷ ts) (suc e) h = base_at ts e (omega (arith, h))

values_at : (ts : List EnumType) (e : ℕ) → e < length ts → slice_index_or (map (λ (t : EnumType). map (λ (m : EnumMember). m.value) t.members) ts) e [] ≡ map (λ (m : EnumMember). m.value) (slice_index_or ts e any_enum).members
values_at [] e h = absurd (omega (arith, h))
values_at (t ∷ ts) zero h = refl
values_at (t ∷ ts) (suc e) h = values_at ts e (omega (arith, h))

has_entry : (bs : List Bool) (p : ℕ) → slice_index_or bs p false ≡ true → p < length bs
has_entry [] p h = cc
has_entry (b ∷ bs) zero h = omega arith
has_entry (b ∷ bs) (suc p) h = let rest = has_entry bs p h in omega (arith, rest)

abbrev AllBelow : ℕ → List ℕ → Type 0
AllBelow w [] = ⊤
AllBelow w (v ∷ vs) = (v < 2 ^ w) × AllBelow w vs

values_below : (w : ℕ) (ms : List EnumMember) → All (λ (m : EnumMember). m.value < 2 ^ w) ms → AllBelow w (map (λ (m : EnumMember). m.value) ms)
values_below w [] h = tt
values_below w (m ∷ ms) h = (All-head (λ (x : EnumMember). x.value < 2 ^ w) m ms h, values_below w ms (All-tail (λ (x : EnumMember). x.value < 2 ^ w) m ms h))

not_true : (b : Bool) → not b ≡ true → b ≡ false
not_true true h = cc
not_true false h = refl

not_false : (b : Bool) → not b ≡ false → b ≡ true
not_false true h = refl
not_false false h = cc

module _ (f : FrameTerm) (part : Part) (ns : List ℕ) (sound : IsSound f) (fit : SizesFit f ns) (fixed : List (ℕ × ℕ)) (a : Reading) (is : IsAssignment f part ns fixed a) where
  abbrev st : Reading
  st = state_at f ns

  below : (p i : ℕ) → a.element p i < 2 ^ width_of f p
  below = number_fits f a ns sound fit part fixed is

  wide : (p : ℕ) → p < length f.class.props → (1 ≤ width_of f p) × (width_of f p ≤ 64)
  wide p lt = let w = width_at f.class.props p lt in let x = sound.props p any_prop lt in let low = x.wide.0 in let high = x.wide.1 in (omega (arith, w, low), omega (arith, w, high))

  -- the values of an enum fit its properties
  enum_below : (p : ℕ) → p < length f.class.props → (vs : List ℕ) → members_of f p ≡ Some vs → AllBelow (width_of f p) vs
  enum_below p lt vs e = by_kind (slice_index_or (map (λ (x : Prop). x.kind.members) f.class.props) p None) refl e
    where
      by_kind : (k : Option ℕ) → slice_index_or (map (λ (x : Prop). x.kind.members) f.class.props) p None ≡ k → members_of_kind f k ≡ Some vs → AllBelow (width_of f p) vs
      by_kind None k h = cc
      by_kind (Some n) k h =
          let named = subst (IsOfEnum f.enums (slice_index_or f.class.props p any_prop).kind) (sym (members_at f.class.props p lt) ∙ k) ((sound.props p any_prop lt).named) in
          let same : members_of_enum f n ≡ vs = cc in
          let width : (slice_index_or f.enums n any_enum).base.width ≡ width_of f p = sym (base_at f.enums n named.0) ∙ named.1 ∙ sym (width_at f.class.props p lt) in
          subst (λ (x : List ℕ). AllBelow (width_of f p) x) (sym (values_at f.enums n named.0) ∙ same)
          (subst (λ (w : ℕ). AllBelow w (map (λ (m : EnumMember). m.value) (slice_index_or f.enums n any_enum).members)) width
          (values_below (slice_index_or f.enums n any_enum).base.width (slice_index_or f.enums n any_enum).members ((sound.types n any_enum named.0).below)))

  -- ---- one domain item

  abbrev ranges : ℕ → List ℕ → RangeTerms
  ranges p vs = ranges_of (map (λ v. one (number_of f p (number v false))) vs)

  members_typed : (p : ℕ) (vs : List ℕ) → (1 ≤ width_of f p) → (width_of f p ≤ 64) → AllBelow (width_of f p) vs → RangesAreTyped (ranges p vs)
  members_typed p [] low high h = tt
  members_typed p (v ∷ vs) low high h = ((low, high, refl, refl, h.0), members_typed p vs low high h.1)

  members_read : (p : ℕ) (vs : List ℕ) → RangesCanRead a 0 (ranges p vs)
  members_read p [] = tt
  members_read p (v ∷ vs) = (tt, members_read p vs)

  members_in : (p : ℕ) (vs : List ℕ) → RangesAreIn f (ranges p vs)
  members_in p [] = tt
  members_in p (v ∷ vs) = (tt, members_in p vs)

  among_ready : (p : ℕ) (n : NodeTerm) → p < length f.class.props → IsTyped (number_of f p n) → CanRead a 0 (number_of f p n) → NodeIsIn f false (width_of f p) (is_signed f p) n
      → (o : Option (List ℕ)) → members_of f p ≡ o → AreReady f a st (among_members f p n o)
  among_ready p n lt t r h None e = tt
  among_ready p n lt t r h (Some vs) e = (
    closed_ready f a [] (typed 1 false (inside (number_of f p n) (ranges p vs))) tt
        (record {
          typed = (omega arith, omega arith, refl, refl, (t, members_typed p vs (wide p lt).0 (wide p lt).1 (enum_below p lt vs e)));
          reads = (r, members_read p vs);
          is_in = (h, members_in p vs);
        }),
    tt,
  )

  abbrev SlotIsProper : Slot → Type 0
  SlotIsProper (Scalar p) = (p < length f.class.props) × (is_array f p ≡ false)
  SlotIsProper (Element p i) = (p < length f.class.props) × (is_array f p ≡ true) × (i < 2 ^ 32)
  SlotIsProper (Size p) = ⊤

  domain_ready : (s : Slot) → SlotIsProper s → AreReady f a st (domain_item f s)
  domain_ready (Scalar p) h =
      among_ready p (prop p) h.0 ((wide p h.0).0, (wide p h.0).1, refl, refl, tt) (below p) ((h.0, refl, refl), λ e. let no : false ≡ true = sym h.1 ∙ e in cc) (members_of f p) refl
  domain_ready (Element p i) h =
      among_ready p (element p (index_number i)) h.0 ((wide p h.0).0, (wide p h.0).1, refl, refl, (omega arith, omega arith, refl, refl, h.2)) (tt, below p) ((h.0, refl, refl), h.1, tt) (members_of f p) refl
  domain_ready (Size p) h = tt

  -- ---- the unknowns

  abbrev AllProper : List Slot → Type 0
  AllProper [] = ⊤
  AllProper (s ∷ ss) = SlotIsProper s × AllProper ss

  proper_append : (xs ys : List Slot) → AllProper xs → AllProper ys → AllProper (xs ++ ys)
  proper_append [] ys h k = k
  proper_append (x ∷ xs) ys h k = (h.0, proper_append xs ys h.1 k)

  proper_scalars : (t : ℕ → Bool) → ((p : ℕ) → t p ≡ true → SlotIsProper (Scalar p)) → (ps : List ℕ) → AllProper (map Scalar (filter t ps))
  proper_scalars t h [] = tt
  proper_scalars t h (p ∷ ps) = by_test (t p) refl (proper_scalars t h ps)
    where
      by_test : (b : Bool) → t p ≡ b → AllProper (map Scalar (filter t ps)) → AllProper (map Scalar (filter t (p ∷ ps)))
      by_test true e rest = subst (λ (c : Bool). AllProper (map Scalar (if c then p ∷ filter t ps else filter t ps))) (sym e) (h p e, rest)
      by_test false e rest = subst (λ (c : Bool). AllProper (map Scalar (if c then p ∷ filter t ps else filter t ps))) (sym e) rest

  cyclic_proper : (p : ℕ) → is_cyclic f p ≡ true → SlotIsProper (Scalar p)
  cyclic_proper p h =
      let two = and_parts (is_random f p) (slice_index_or (map (λ (x : Prop). is_randc x.rand) f.class.props) p false) h in
      let here = found (λ (x : Prop). is_randc x.rand) f.class.props p two.1 in
      (here.0, ap not (scalar_at f.class.props p here.0 ∙ (sound.props p any_prop here.0).cyclic here.1))

  scalar_proper : (p : ℕ) → (is_random f p && not (is_array f p) && not (is_cyclic f p)) ≡ true → SlotIsProper (Scalar p)
  scalar_proper p h =
      let two = and_parts (is_random f p && not (is_array f p)) (not (is_cyclic f p)) h in
      let none = not_true (is_array f p) (and_parts (is_random f p) (not (is_array f p)) two.0).1 in
      ((found (λ (x : Prop). is_scalar_kind x.array) f.class.props p (not_false (is_scalar f p) none)).0, none)

  proper_row : (p i n : ℕ) → p < length f.class.props → is_array f p ≡ true → i + n ≤ ELEMENT_LIMIT → AllProper (map (Element p) (range_with_len i n))
  proper_row p i zero lt arr le = tt
  proper_row p i (suc n) lt arr le = ((lt, arr, omega (arith, le)), proper_row p (i + 1) n lt arr (omega (arith, le)))

  proper_elements : (ps : List ℕ) → AllProper (flat_map (λ p. map (Element p) (range_with_len 0 (slice_index ns p))) (filter (is_random_array f) ps))
  proper_elements [] = tt
  proper_elements (p ∷ ps) = by_test (is_random_array f p) refl (proper_elements ps)
    where
      row : ℕ → List Slot
      row q = map (Element q) (range_with_len 0 (slice_index ns q))

      by_test : (b : Bool) → is_random_array f p ≡ b → AllProper (flat_map row (filter (is_random_array f) ps)) → AllProper (flat_map row (filter (is_random_array f) (p ∷ ps)))
      by_test true e rest =
          let two = and_parts (is_random f p) (is_array f p) e in
          let there = has_entry f.random p two.0 in
          subst (λ (c : Bool). AllProper (flat_map row (if c then p ∷ filter (is_random_array f) ps else filter (is_random_array f) ps))) (sym e)
          (subst AllProper (sym (flat_map-cons row p (filter (is_random_array f) ps)))
          (proper_append (row p) (flat_map row (filter (is_random_array f) ps)) (proper_row p 0 (slice_index ns p) (omega (arith, there, sound.random)) two.1 (omega (arith, fit.most p))) rest))
      by_test false e rest = subst (λ (c : Bool). AllProper (flat_map row (if c then p ∷ filter (is_random_array f) ps else filter (is_random_array f) ps))) (sym e) rest

  all_sizes : (ps : List ℕ) → AllProper (map Size ps)
  all_sizes [] = tt
  all_sizes (p ∷ ps) = (tt, all_sizes ps)

  cyclic_are : AllProper (cyclic_slots f)
  cyclic_are = proper_scalars (is_cyclic f) cyclic_proper (props_of f)

  scalars_are : AllProper (scalar_slots f)
  scalars_are = proper_scalars (λ p. is_random f p && not (is_array f p) && not (is_cyclic f p)) scalar_proper (props_of f)

  unknowns_proper : (p : Part) → AllProper (unknowns_of f p ns)
  unknowns_proper Randc = cyclic_are
  unknowns_proper Sizes =
      proper_append (cyclic_slots f ++ size_slots f) (scalar_slots f) (proper_append (cyclic_slots f) (size_slots f) cyclic_are (all_sizes (filter (has_free_size f) (props_of f)))) scalars_are
  unknowns_proper Whole =
      proper_append (cyclic_slots f ++ scalar_slots f) (element_slots f ns) (proper_append (cyclic_slots f) (scalar_slots f) cyclic_are scalars_are) (proper_elements (props_of f))

  -- ---- all items

  ready_append : (os ps : List Occurrence) → AreReady f a st os → AreReady f a st ps → AreReady f a st (os ++ ps)
  ready_append [] ps h k = k
  ready_append (o ∷ os) ps h k = (h.0, ready_append os ps h.1 k)

  domains_ready : (ss : List Slot) → AllProper ss → AreReady f a st (flat_map (domain_item f) ss)
  domains_ready [] h = tt
  domains_ready (s ∷ ss) h =
      subst (AreReady f a st) (sym (flat_map-cons (domain_item f) s ss)) (ready_append (domain_item f s) (flat_map (domain_item f) ss) (domain_ready s h.0) (domains_ready ss h.1))

  closed_all : (os : List Occurrence) → AllAreReady f a os → AreReady f a st os
  closed_all [] h = tt
  closed_all (o ∷ os) h = (occurrence_ready f a st o h.0, closed_all os h.1)

  all_active : AllAreReady f a (active_at f ns)
  all_active = active_ready f a ns fit.most sound (items_can_read f a ns sound fit part fixed is)

  pub domains_are_ready : AreReady f a st (domain_items f part ns)
  domains_are_ready = domains_ready (unknowns_of f part ns) (unknowns_proper part)

  pub asked_are_ready : AreReady f a st (asked_of f part ns)
  asked_are_ready = closed_all (asked_of f part ns) (ready_kept f a (λ o. is_hard o && belongs f part ns o) (active_at f ns) all_active)

  live_all : (os : List Occurrence) → AllAreReady f a os → AreReady f a st (live f part ns os)
  live_all [] h = tt
  live_all (o ∷ os) h =
      ready_append (live f part ns os) (if is_soft_of f part ns o && not (list_any (λ d. removes f part ns d o) os) then o ∷ [] else []) (live_all os h.1) (last (is_soft_of f part ns o && not (list_any (λ d. removes f part ns d o) os)))
    where
      last : (b : Bool) → AreReady f a st (if b then o ∷ [] else [])
      last true = (occurrence_ready f a st o h.0, tt)
      last false = tt

  pub live_are_ready : AreReady f a st (live_of f part ns)
  live_are_ready = live_all (active_at f ns) all_active

  pub both_ready : (os ps : List Occurrence) → AreReady f a st os → AreReady f a st ps → AreReady f a st (os ++ ps)
  both_ready os ps h k = ready_append os ps h k

-- ---- the last phase

module _ (f : FrameTerm) (ns : List ℕ) (sound : IsSound f) (fit : SizesFit f ns) (fixed : List (ℕ × ℕ)) (a : Reading) (is : IsAssignment f Whole ns fixed a) where
  pub hard_ready : AreReady f a (state_at f ns) (hard_of f Whole ns)
  hard_ready =
      both_ready f Whole ns sound fit fixed a is (domain_items f Whole ns ++ []) (asked_of f Whole ns)
      (both_ready f Whole ns sound fit fixed a is (domain_items f Whole ns) [] (domains_are_ready f Whole ns sound fit fixed a is) tt) (asked_are_ready f Whole ns sound fit fixed a is)

  pub live_ready : AreReady f a (state_at f ns) (live_of f Whole ns)
  live_ready = live_are_ready f Whole ns sound fit fixed a is
