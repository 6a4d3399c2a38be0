-- The preferred number of an unknown that no item mentions is in its domain.
use Rattle.std.proofs.Common.{◌≡◌, ◌<◌, ◌≤◌, ◌==◌, ◌%◌, ◌^◌, ◌&&◌, ◌||◌, ℕ, zero, suc, Bool, true, false, refl, sym, ap, ◌∙◌, subst, List, [], ◌∷◌, ◌++◌, length, map, Option, None, Some, arith}
use Rattle.std.specs.Prelude.{filter, max, if◌then◌else◌, slice_index, slice_index_or}
use Rattle.std.specs.List.{list_any, All}
use Rattle.std.proofs.Math.Nat.{mod-lt}
use Rattle.std.proofs.lemmas.Bool.{eqb-true, eq-eqb, and_parts}
use Rattle.std.proofs.lemmas.List.{length-map}
use Rattle.std.proofs.lemmas.List.Folds.{list_any-append}
use Rattle.std.proofs.lemmas.List.Elements.{All-head, All-tail, filter-append}
use Rattle.svr_num.specs.Num.{extend_of}
use Rattle.svr_typed.specs.declared.class.Prop.{Prop}
use Rattle.svr_typed.specs.declared.class.EnumType.{EnumType}
use Rattle.svr_typed.specs.declared.class.EnumMember.{EnumMember}
use Rattle.svr_typed.specs.ExprTerm.{typed, NodeTerm, number, prop, element, cell, size, script, loop_index, reduce, of_object, bit_select, part_select, unary, binary, choice, inside, join, copies, sign, one, ranges_of}
use Rattle.svr_typed.specs.ItemTerm.{DistTerm, ItemTerm, plain, unique, implies, branch, foreach, disable, solve, ItemTerms, no_items, more_items}
use Rattle.svr_eval.specs.Reading.{Reading}
use Rattle.svr_eval.specs.Value.{node_property, property_of, fits, fits_some, truth, is_set, element_at, index_read}
use Rattle.svr_frame.specs.declared.part.Part.TheVariants.{All as Whole}
use Rattle.svr_frame.specs.declared.slot.Slot.{Slot}
use Rattle.svr_frame.specs.declared.slot.Slot.TheVariants.{Scalar, Element, Size}
use Rattle.svr_frame.specs.Frame.{FrameTerm, is_array, width_of, is_signed, members_of, members_of_kind, members_of_enum, domain_from, domain_of, state_at}
use Rattle.svr_frame.specs.Closed.{index_number}
use Rattle.svr_frame.specs.Occurrences.{Occurrence, Shape, dealt, outside, occurrence, occur, all_occur, all_true, is_hard}
use Rattle.svr_frame.specs.Reads.{of_scalar, of_elements, property_read, dist_reads, mentions}
use Rattle.svr_frame.specs.Phases.{cyclic_slots, scalar_slots, element_slots, unknowns_of, shape_at, asked_of, number_of, among_members, domain_item, size_slots}
use Rattle.svr_frame.specs.Satisfaction.{is_at, IsAssignment}
use Rattle.svr_frame.specs.Sound.{IsEnum, IsOfEnum, IsProp, IsSound, SizesFit}
use Rattle.svr_frame_laws.proofs.Unmentioned.{none_of, not_true}
use Rattle.svr_draw.specs.Preferred.{with_words, dists_on, dist_on, item_dists, from_domain, from_dists, preferred_number, number_in, preferred_of}
use Rattle.svr_phase.specs.declared.choice.Choice.{Choice}
use Rattle.svr_phase.specs.Cyclic.{is_among, fixed_of}
use Rattle.svr_phase.specs.Sizes.{words_after}
use Rattle.svr_phase.specs.Ends.{Call, cyclic_props}
use Rattle.svr_phase.specs.Chosen.{AreCyclicValues}
use Rattle.svr_phase.proofs.Preferred.{same_number_in}
use Rattle.svr_phase.proofs.ChosenValues.{with_cyclic_is}
use Rattle.svr_call.specs.Call.{soft_items, is_unmentioned, preferred}
use Rattle.svr_settled.proofs.Stepped.{IsUnknown, in_size}
use Rattle.svr_settled_laws.proofs.SlotKinds.{IsKind, drawn_kinds, cyclic_kinds, constant_index}

-- ---- members

either_way : (b : Bool) → (b || true) ≡ true
either_way true = refl
either_way false = refl

-- a number that is one of the members is found among them
member_found : (f : FrameTerm) (a : Reading) (p x : ℕ) (vs : List ℕ) (k : ℕ) → k < length vs → x ≡ slice_index vs k
    → fits_some a [] (record { size = width_of f p; sign = is_signed f p; value = λ n t. extend_of t n (width_of f p) x }) (ranges_of (map (λ v. one (number_of f p (number v false))) vs)) ≡ true
member_found f a p x [] k lt same = absurd (omega (arith, lt))
member_found f a p x (v ∷ vs) zero lt same =
    let w = width_of f p in
    let s = is_signed f p in
    let here : (extend_of (s && s) (max w w) w x == extend_of (s && s) (max w w) w v) ≡ true = eq-eqb (extend_of (s && s) (max w w) w x) (extend_of (s && s) (max w w) w v) (ap (extend_of (s && s) (max w w) w) same) in
    ap (λ b. b || fits_some a [] (record { size = width_of f p; sign = is_signed f p; value = λ n t. extend_of t n (width_of f p) x }) (ranges_of (map (λ u. one (number_of f p (number u false))) vs))) here
member_found f a p x (v ∷ vs) (suc k) lt same =
    ap (λ b. fits a [] (record { size = width_of f p; sign = is_signed f p; value = λ n t. extend_of t n (width_of f p) x }) (one (number_of f p (number v false))) || b) (member_found f a p x vs k (omega (arith, lt)) same)
    ∙ either_way _

-- an enum has members
enum_some : (ts : List EnumType) (e : ℕ) → All IsEnum ts → e < length ts → 0 < length (slice_index_or (map (λ (t : EnumType). map (λ (m : EnumMember). m.value) t.members) ts) e [])
enum_some [] e h lt = absurd (omega (arith, lt))
enum_some (t ∷ ts) zero h lt = let some = (All-head IsEnum t ts h).some in let same = length-map t.members (λ (m : EnumMember). m.value) in omega (arith, some, same)
enum_some (t ∷ ts) (suc e) h lt = enum_some ts e (All-tail IsEnum t ts h) (omega (arith, lt))

enum_named : (ts : List EnumType) (props : List Prop) (p e : ℕ) → All (IsProp ts) props → slice_index_or (map (λ (x : Prop). x.kind.members) props) p None ≡ Some e → e < length ts
enum_named ts [] p e h is = cc
enum_named ts (x ∷ props) zero e h is = (subst (λ (m : Option ℕ). IsOfEnum ts x.kind m) is (All-head (IsProp ts) x props h).named).0
enum_named ts (x ∷ props) (suc p) e h is = enum_named ts props p e (All-tail (IsProp ts) x props h) is

some_members : (f : FrameTerm) → IsSound f → (p : ℕ) (k : Option ℕ) (vs : List ℕ) → slice_index_or (map (λ (x : Prop). x.kind.members) f.class.props) p None ≡ k → members_of_kind f k ≡ Some vs → 0 < length vs
some_members f sound p None vs e h = cc
some_members f sound p (Some n) vs e h =
    let same : members_of_enum f n ≡ vs = cc in
    subst (λ (l : List ℕ). 0 < length l) same (enum_some f.enums n sound.types (enum_named f.enums f.class.props p n sound.props e))

-- ---- distributions

-- an expression that is a property
is_prop : (n : NodeTerm) (q : ℕ) → node_property n ≡ Some q → n ≡ prop q
is_prop (number v every) q h = cc
is_prop (prop p) q h = let same : p ≡ q = cc in ap prop same
is_prop (element p e) q h = cc
is_prop (cell p m first second) q h = cc
is_prop (size p m) q h = cc
is_prop (script v) q h = cc
is_prop (loop_index k) q h = cc
is_prop (reduce p op body) q h = cc
is_prop (of_object o e) q h = cc
is_prop (bit_select base first low) q h = cc
is_prop (part_select base first last low) q h = cc
is_prop (unary op e) q h = cc
is_prop (binary op l r) q h = cc
is_prop (choice t met unmet) q h = cc
is_prop (inside l rs) q h = cc
is_prop (join parts) q h = cc
is_prop (copies count parts) q h = cc
is_prop (sign as_signed e) q h = cc

none_dealt : (p : ℕ) (soft : Bool) (o : Option ℕ) → dist_on p soft o None ≡ []
none_dealt p soft None = refl
none_dealt p soft (Some q) = refl

module _ (sh : Shape) (p : ℕ) where
  abbrev asked : List Occurrence → List Occurrence
  asked os = filter (λ o. is_hard o && true) os

  first_read : (q : ℕ) (b : Bool) → property_read (if b then of_elements q else of_scalar q) ≡ q
  first_read q true = refl
  first_read q false = refl

  dealt_mentions : (w : ℕ) (s : Bool) (q : ℕ) (ds : List DistTerm) → (p == q) ≡ true → mentions sh p (occurrence outside false (dealt (typed w s (prop q)) ds)) ≡ true
  dealt_mentions w s q ds e =
      ap (λ x. (x == p) || list_any (λ r. property_read r == p) (dist_reads sh [] ds ++ [] ++ [])) (first_read q (sh.is_array q))
      ∙ ap (λ b. b || list_any (λ r. property_read r == p) (dist_reads sh [] ds ++ [] ++ [])) (eq-eqb q p (sym (eqb-true p q e)))

  one_dealt : (w : ℕ) (s soft : Bool) (n : NodeTerm) (ds : List DistTerm) (o : Option ℕ) → node_property n ≡ o → list_any (λ x. mentions sh p x) (asked (occurrence outside soft (dealt (typed w s n) ds) ∷ [])) ≡ false → dist_on p soft o (Some ds) ≡ []
  one_dealt w s soft n ds None e h = refl
  one_dealt w s true n ds (Some q) e h = refl
  one_dealt w s false n ds (Some q) e h = by_test (p == q) refl
    where
      by_test : (b : Bool) → (p == q) ≡ b → (if b then ds ∷ [] else []) ≡ []
      by_test true t =
          let none = none_of (mentions sh p (occurrence outside false (dealt (typed w s n) ds))) false h in
          absurd (let no : false ≡ true = sym none.0 ∙ ap (λ m. mentions sh p (occurrence outside false (dealt (typed w s m) ds))) (is_prop n q e) ∙ dealt_mentions w s q ds t in cc)
      by_test false t = refl

  item_none : (i : ItemTerm) → list_any (λ x. mentions sh p x) (asked (occur sh outside i)) ≡ false → item_dists p i ≡ []
  item_none (plain soft e None) h = none_dealt p soft (property_of e)
  item_none (plain soft (typed w s n) (Some ds)) h = one_dealt w s soft n ds (node_property n) refl h
  item_none (unique es) h = refl
  item_none (implies t body) h = refl
  item_none (branch t met unmet) h = refl
  item_none (foreach q m names body) h = refl
  item_none (disable target) h = refl
  item_none (solve first later) h = refl

  -- a property that no hard item mentions has no distribution
  no_dists : (is : ItemTerms) → list_any (λ x. mentions sh p x) (asked (all_occur sh outside is)) ≡ false → dists_on p is ≡ []
  no_dists no_items h = refl
  no_dists (more_items i is) h =
      let front = asked (occur sh outside i) in
      let back = asked (all_occur sh outside is) in
      let two = none_of (list_any (λ x. mentions sh p x) (asked (occur sh outside i))) (list_any (λ x. mentions sh p x) (asked (all_occur sh outside is)))
      (sym (ap (list_any (λ x. mentions sh p x)) (filter-append (λ o. is_hard o && true) (occur sh outside i) (all_occur sh outside is)) ∙ list_any-append (λ x. mentions sh p x) (asked (occur sh outside i)) (asked (all_occur sh outside is))) ∙ h) in
      let here = item_none i two.0 in
      let rest = no_dists is two.1 in
      λ k. here k ++ rest k

-- ---- numbers that were drawn

-- a slot among those that are drawn has the number of one of them
drawn_at : (f : FrameTerm) (n : ℕ) (ss : List Slot) (g : Slot × ℕ → ℕ) (p i other : ℕ) → All (IsKind f) ss → list_any (is_at p i) ss ≡ true
    → (s : Slot) × (w : ℕ) × IsKind f s × (is_at p i s ≡ true) × (number_in (map (λ x. (x.0, g x)) (with_words n ss)) p i other ≡ g (s, w))
drawn_at f n [] g p i other k h = cc
drawn_at f n (t ∷ ss) g p i other k h = by_test (is_at p i t) refl h (drawn_at f (suc n) ss g p i other (All-tail (IsKind f) t ss k))
  where
    by_test : (b : Bool) → is_at p i t ≡ b → (b || list_any (is_at p i) ss) ≡ true
        → (list_any (is_at p i) ss ≡ true → (s : Slot) × (w : ℕ) × IsKind f s × (is_at p i s ≡ true) × (number_in (map (λ x. (x.0, g x)) (with_words (suc n) ss)) p i other ≡ g (s, w)))
        → (s : Slot) × (w : ℕ) × IsKind f s × (is_at p i s ≡ true) × (number_in (map (λ x. (x.0, g x)) (with_words n (t ∷ ss))) p i other ≡ g (s, w))
    by_test true e q rest = (t, n, All-head (IsKind f) t ss k, e, ap (λ b. if b then g (t, n) else number_in (map (λ x. (x.0, g x)) (with_words (suc n) ss)) p i other) e)
    by_test false e q rest =
        let r = rest q in
        (r.0, r.1, r.2, r.3, ap (λ b. if b then g (t, n) else number_in (map (λ x. (x.0, g x)) (with_words (suc n) ss)) p i other) e ∙ r.4)

-- ---- chosen values

-- a value of a list is at some place of it
place_of : (v : ℕ) (vs : List ℕ) → is_among v vs ≡ true → (k : ℕ) × (k < length vs) × (v ≡ slice_index vs k)
place_of v [] h = absurd (let no : false ≡ true = h in cc)
place_of v (u ∷ vs) h = by_test (u == v) refl (place_of v vs)
  where
    by_test : (b : Bool) → (u == v) ≡ b → (is_among v vs ≡ true → (k : ℕ) × (k < length vs) × (v ≡ slice_index vs k)) → (k : ℕ) × (k < length (u ∷ vs)) × (v ≡ slice_index (u ∷ vs) k)
    by_test true e rest = (0, omega arith, sym (eqb-true u v e))
    by_test false e rest = let r = rest (sym (ap (λ b. b || is_among v vs) e) ∙ h) in (suc r.0, omega (arith, r.1), r.2)

-- a scalar among the chosen ones has a value of its domain
chosen_at : (f : FrameTerm) (fixed : List (ℕ × ℕ)) → All (λ (c : ℕ × ℕ). is_among c.1 (domain_of f c.0) ≡ true) fixed → (p i other : ℕ) → list_any (is_at p i) (map Scalar (map (λ (c : ℕ × ℕ). c.0) fixed)) ≡ true
    → (v : ℕ) × (is_among v (domain_of f p) ≡ true) × (number_in (map (λ (c : ℕ × ℕ). (Scalar c.0, c.1)) fixed) p i other ≡ v)
chosen_at f [] all p i other h = absurd (let no : false ≡ true = h in cc)
chosen_at f (x ∷ fixed) all p i other h = by_test (is_at p i (Scalar x.0)) refl (chosen_at f fixed (All-tail (λ (c : ℕ × ℕ). is_among c.1 (domain_of f c.0) ≡ true) x fixed all) p i other)
  where
    by_test : (b : Bool) → is_at p i (Scalar x.0) ≡ b
        → (list_any (is_at p i) (map Scalar (map (λ (c : ℕ × ℕ). c.0) fixed)) ≡ true → (v : ℕ) × (is_among v (domain_of f p) ≡ true) × (number_in (map (λ (c : ℕ × ℕ). (Scalar c.0, c.1)) fixed) p i other ≡ v))
        → (v : ℕ) × (is_among v (domain_of f p) ≡ true) × (number_in (map (λ (c : ℕ × ℕ). (Scalar c.0, c.1)) (x ∷ fixed)) p i other ≡ v)
    by_test true e rest = (
      x.1,
      subst (λ (q : ℕ). is_among x.1 (domain_of f q) ≡ true) (eqb-true x.0 p (and_parts (x.0 == p) (i == 0) e).0) (All-head (λ (c : ℕ × ℕ). is_among c.1 (domain_of f c.0) ≡ true) x fixed all),
      ap (λ b. if b then x.1 else number_in (map (λ (c : ℕ × ℕ). (Scalar c.0, c.1)) fixed) p i other) e,
    )
    by_test false e rest =
        let r = rest (sym (ap (λ b. b || list_any (is_at p i) (map Scalar (map (λ (c : ℕ × ℕ). c.0) fixed))) e) ∙ h) in
        (r.0, r.1, ap (λ b. if b then x.1 else number_in (map (λ (c : ℕ × ℕ). (Scalar c.0, c.1)) fixed) p i other) e ∙ r.2)

-- an array is not among scalars
array_apart : (f : FrameTerm) (p i : ℕ) → is_array f p ≡ true → (qs : List ℕ) → All (IsKind f) (map Scalar qs) → list_any (is_at p i) (map Scalar qs) ≡ false
array_apart f p i arr [] k = refl
array_apart f p i arr (q ∷ qs) k = by_test (q == p) refl (array_apart f p i arr qs (All-tail (IsKind f) (Scalar q) (map Scalar qs) k))
  where
    by_test : (b : Bool) → (q == p) ≡ b → list_any (is_at p i) (map Scalar qs) ≡ false → list_any (is_at p i) (map Scalar (q ∷ qs)) ≡ false
    by_test true e rest = absurd (let no : false ≡ true = sym (All-head (IsKind f) (Scalar q) (map Scalar qs) k) ∙ ap (is_array f) (eqb-true q p e) ∙ arr in cc)
    by_test false e rest = ap (λ b. (b && (i == 0)) || list_any (is_at p i) (map Scalar qs)) e ∙ rest

module _ (c : Call) (choices : List Choice) (ns : List ℕ) (sound : IsSound c.frame) (fit : SizesFit c.frame ns) (cyclic : AreCyclicValues c.frame (fixed_of choices)) where
  abbrev f : FrameTerm
  f = c.frame

  abbrev fixed : List (ℕ × ℕ)
  fixed = fixed_of choices

  abbrev words : ℕ → ℕ
  words = words_after (length fixed) c.words

  abbrev wish : Reading
  wish = preferred c choices ns

  abbrev base : Reading
  base = preferred_of f Whole ns c.cap words

  abbrev value_of : Slot × ℕ → ℕ
  value_of x = preferred_number c.frame ns c.cap x.0 (words x.1)

  -- what is not cyclic is drawn
  drawn_any : (t : Slot → Bool) → list_any t (cyclic_slots f) ≡ false → list_any t (unknowns_of f Whole ns) ≡ true → list_any t (scalar_slots f ++ element_slots f ns) ≡ true
  drawn_any t none h =
      list_any-append t (scalar_slots f) (element_slots f ns)
      ∙ ap (λ b. (b || list_any t (scalar_slots f)) || list_any t (element_slots f ns)) (sym none)
      ∙ ap (λ b. b || list_any t (element_slots f ns)) (sym (list_any-append t (cyclic_slots f) (scalar_slots f)))
      ∙ sym (list_any-append t (cyclic_slots f ++ scalar_slots f) (element_slots f ns))
      ∙ h

  found_for : (p i : ℕ) → list_any (is_at p i) (cyclic_slots f) ≡ false → list_any (is_at p i) (unknowns_of f Whole ns) ≡ true
      → (s : Slot) × (w : ℕ) × IsKind f s × (is_at p i s ≡ true) × (wish.element p i ≡ value_of (s, w))
  found_for p i none h =
      let r = drawn_at f (length (size_slots f)) (scalar_slots f ++ element_slots f ns) value_of p i ((state_at f ns).element p i) (drawn_kinds f ns sound) (drawn_any (is_at p i) none h) in
      let apart : list_any (is_at p i) (map Scalar (map (λ (x : ℕ × ℕ). x.0) fixed)) ≡ false = ap (λ (ps : List ℕ). list_any (is_at p i) (map Scalar ps)) cyclic.props ∙ none in
      (r.0, r.1, r.2, r.3, same_number_in fixed p i (base.element p i) apart ∙ r.4)

  -- the number of an unknown without a distribution is from its domain
  from_scalar : (p i word : ℕ) (s : Slot) → is_at p i s ≡ true → dists_on p f.items ≡ [] → preferred_number f ns c.cap s word ≡ from_domain f p (members_of f p) word
  from_scalar p i word (Scalar q) e undealt =
      ap (λ x. from_dists f ns x (dists_on x f.items) word) (eqb-true q p (and_parts (q == p) (i == 0) e).0) ∙ ap (λ ds. from_dists f ns p ds word) undealt
  from_scalar p i word (Element q j) e undealt = ap (λ x. from_domain f x (members_of f x) word) (eqb-true q p (and_parts (q == p) (j == i) e).0)
  from_scalar p i word (Size q) e undealt = cc

  from_element : (p i word : ℕ) (s : Slot) → is_at p i s ≡ true → IsKind f s → is_array f p ≡ true → preferred_number f ns c.cap s word ≡ from_domain f p (members_of f p) word
  from_element p i word (Scalar q) e k arr =
      absurd (let no : false ≡ true = sym k ∙ ap (is_array f) (eqb-true q p (and_parts (q == p) (i == 0) e).0) ∙ arr in cc)
  from_element p i word (Element q j) e k arr = ap (λ x. from_domain f x (members_of f x) word) (eqb-true q p (and_parts (q == p) (j == i) e).0)
  from_element p i word (Size q) e k arr = cc

  -- a number from the domain is among the members
  scalar_among : (a : Reading) (p word : ℕ) (m : Option (List ℕ)) → members_of f p ≡ m → a.element p 0 ≡ from_domain f p m word → all_true a (among_members f p (prop p) m) ≡ true
  scalar_among a p word None is same = refl
  scalar_among a p word (Some vs) is same =
      let some = some_members f sound p (slice_index_or (map (λ (x : Prop). x.kind.members) f.class.props) p None) vs refl is in
      ap (λ b. is_set (truth 1 false b) && true) (member_found f a p (a.element p 0) vs (word % length vs) (mod-lt word (omega (arith, some))) same)

  element_among : (a : Reading) (p i word : ℕ) → i < 2 ^ 31 → (m : Option (List ℕ)) → members_of f p ≡ m → a.element p i ≡ from_domain f p m word → all_true a (among_members f p (element p (index_number i)) m) ≡ true
  element_among a p i word low None is same = refl
  element_among a p i word low (Some vs) is same =
      let some = some_members f sound p (slice_index_or (map (λ (x : Prop). x.kind.members) f.class.props) p None) vs refl is in
      ap (λ b. is_set (truth 1 false b) && true)
      (member_found f a p (element_at a p (index_read a [] (index_number i))) vs (word % length vs) (mod-lt word (omega (arith, some))) (ap (element_at a p) (constant_index a i low) ∙ same))

  -- a chosen value is among the members
  chosen_among : (p v : ℕ) (m : Option (List ℕ)) → members_of f p ≡ m → is_among v (domain_from f (width_of f p) m) ≡ true → wish.element p 0 ≡ v → all_true wish (among_members f p (prop p) m) ≡ true
  chosen_among p v None is h same = refl
  chosen_among p v (Some vs) is h same =
      let r = place_of v vs h in
      ap (λ b. is_set (truth 1 false b) && true) (member_found f wish p (wish.element p 0) vs r.0 r.1 (same ∙ r.2))

  -- the preferred number of an unknown that no item mentions
  pub wished : (s : Slot) → IsUnknown f ns sound fit s → IsKind f s → is_unmentioned c ns s ≡ true → all_true wish (domain_item f s) ≡ true
  wished (Scalar p) u k free = by_choice (list_any (is_at p 0) (cyclic_slots f)) refl
    where
      by_choice : (b : Bool) → list_any (is_at p 0) (cyclic_slots f) ≡ b → all_true wish (domain_item f (Scalar p)) ≡ true
      by_choice true e =
          let among : list_any (is_at p 0) (map Scalar (map (λ (x : ℕ × ℕ). x.0) fixed)) ≡ true = ap (λ (ps : List ℕ). list_any (is_at p 0) (map Scalar ps)) cyclic.props ∙ e in
          let r = chosen_at f fixed cyclic.members p 0 (base.element p 0) among in
          chosen_among p r.0 (members_of f p) refl r.1 r.2
      by_choice false e =
          let r = found_for p 0 e (u p 0 (λ x. eq-eqb p p refl x && true)) in
          let unasked = not_true (list_any (λ o. mentions (shape_at f ns) p o) (asked_of f Whole ns ++ soft_items c ns)) free in
          let two = none_of (list_any (λ o. mentions (shape_at f ns) p o) (asked_of f Whole ns)) (list_any (λ o. mentions (shape_at f ns) p o) (soft_items c ns)) (sym (list_any-append (λ o. mentions (shape_at f ns) p o) (asked_of f Whole ns) (soft_items c ns)) ∙ unasked) in
          let no = no_dists (shape_at f ns) p f.items two.0 in
          scalar_among wish p (words r.1) (members_of f p) refl (r.4 ∙ from_scalar p 0 (words r.1) r.0 r.3 no)
  wished (Element p i) u k free =
      let here = u p i (λ x. eq-eqb p p refl x && eq-eqb i i refl x) in
      let r = found_for p i (array_apart f p i k (cyclic_props f) (cyclic_kinds f ns sound)) here in
      let lt = in_size f ns sound fit p i here in
      element_among wish p i (words r.1) (omega (arith, lt, fit.most p)) (members_of f p) refl (r.4 ∙ from_element p i (words r.1) r.0 r.3 r.2 k)
  wished (Size p) u k free = refl

  pub wish_is : c.cap ≤ 2048 → IsAssignment c.frame Whole ns (fixed_of choices) (preferred c choices ns)
  wish_is le = with_cyclic_is c.frame ns sound fit c.cap le c.words (fixed_of choices) cyclic
