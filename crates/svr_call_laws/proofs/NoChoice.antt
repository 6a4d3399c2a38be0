-- Where no value of a cyclic property fits, no assignment of the cyclic phase meets its items: each assignment has some value of the domain there.
use Rattle.std.proofs.Common.{◌≡◌, ◌<◌, ◌≤◌, ◌==◌, ◌+◌, ◌-◌, ◌*◌, ◌%◌, ◌^◌, max, ℕ, zero, suc, Bool, true, false, cond, ◌&&◌, ◌||◌, refl, sym, ◌∙◌, ap, subst, List, [], ◌∷◌, ◌++◌, map, length, take, drop, Option, None, Some, arith}
use Rattle.std.specs.Prelude.{filter, slice_index, slice_index_or}
use Rattle.std.specs.List.{All, list_any, flat_map, range_with_len}
use Rattle.std.proofs.lemmas.Bool.{and_parts, eqb-true, eqb-false}
use Rattle.std.proofs.lemmas.List.{take-append-drop}
use Rattle.std.proofs.lemmas.List.Elements.{All-nil, All-cons, All-head, All-tail}
use Rattle.std.proofs.lemmas.List.Folds.{list_all-append, list_any-append}
use Rattle.std.proofs.lemmas.List.Concat.{flat_map-cons}
use Rattle.svr_num.specs.Num.{extend_of}
use Rattle.svr_shape.specs.Shape.{fill_of}
use Rattle.svr_shape.proofs.ExtensionLemmas.{extend_value}
use Rattle.svr_typed.specs.declared.class.Prop.{Prop}
use Rattle.svr_typed.specs.declared.class.EnumType.{EnumType}
use Rattle.svr_typed.specs.declared.class.EnumMember.{EnumMember}
use Rattle.svr_typed.specs.ExprTerm.{number, prop, one, RangeTerm, ranges_of}
use Rattle.svr_eval.specs.Reading.{Reading}
use Rattle.svr_eval.specs.Value.{truth, is_set, Operand, fits_some}
use Rattle.svr_frame.specs.declared.part.Part.TheVariants.{Randc}
use Rattle.svr_frame.specs.declared.slot.Slot.TheVariants.{Scalar}
use Rattle.svr_frame.specs.Frame.{FrameTerm, props_of, is_random, is_cyclic, is_signed, width_of, members_of_enum, members_of_kind, members_of, domain_from, domain_of}
use Rattle.svr_frame.specs.Occurrences.{is_true, all_true}
use Rattle.svr_frame.specs.Phases.{number_of, among_members, domain_item, domain_items, size_items, asked_of, hard_of}
use Rattle.svr_frame.specs.Satisfaction.{AreFixed, IsAssignment, Sat}
use Rattle.svr_frame.specs.Sound.{IsOfEnum, IsSound}
use Rattle.svr_frame_laws.proofs.Readable.{number_fits}
use Rattle.svr_draw.proofs.Parts.{any_prop}
use Rattle.svr_draw.proofs.Widths.{width_fits}
use Rattle.svr_draw.proofs.Fits.{width_at}
use Rattle.svr_phase.specs.declared.choice.Choice.{Choice}
use Rattle.svr_phase.specs.Cyclic.{Cycles, fixed_of, unused, turned, Fits, HasNoChoice}
use Rattle.svr_phase.specs.Ends.{cyclic_props}
use Rattle.svr_phase.proofs.Preferred.{state_sizes_fit}

-- ---- members of lists

all_at : (P : ℕ → Type 0) (vs : List ℕ) (v : ℕ) → list_any (λ u. u == v) vs ≡ true → All P vs → P v
all_at P [] v h all = absurd (cc)
all_at P (u ∷ vs) v h all = by_test (u == v) refl (λ k. all_at P vs v k (All-tail P u vs all))
  where
    by_test : (b : Bool) → (u == v) ≡ b → (list_any (λ x. x == v) vs ≡ true → P v) → P v
    by_test true e rest = subst P (eqb-true u v e) (All-head P u vs all)
    by_test false e rest = rest (sym (ap (λ b. b || list_any (λ x. x == v) vs) e) ∙ h)

all_right : {A : Type 0} (P : A → Type 0) (xs ys : List A) → All P (xs ++ ys) → All P ys
all_right P [] ys all = all
all_right P (x ∷ xs) ys all = all_right P xs ys (All-tail P x (xs ++ ys) all)

all_mapped : {A : Type 0} (P : A → Type 0) (f : ℕ → A) (vs : List ℕ) → All P (map f vs) → All (λ v. P (f v)) vs
all_mapped P f [] all = All-nil (λ v. P (f v))
all_mapped P f (v ∷ vs) all = All-cons (λ u. P (f u)) v vs (All-head P (f v) (map f vs) all) (all_mapped P f vs (All-tail P (f v) (map f vs) all))

-- going round changes no member
turned_any : (t : ℕ → Bool) (word : ℕ) (vs : List ℕ) → list_any t (turned word vs) ≡ list_any t vs
turned_any t word vs =
    list_any-append t (drop (word % length vs) vs) (take (word % length vs) vs)
    ∙ other_way (list_any t (drop (word % length vs) vs)) (list_any t (take (word % length vs) vs))
    ∙ sym (list_any-append t (take (word % length vs) vs) (drop (word % length vs) vs))
    ∙ ap (list_any t) (take-append-drop (word % length vs) vs)
  where
    other_way : (b c : Bool) → (b || c) ≡ (c || b)
    other_way true true = refl
    other_way true false = refl
    other_way false true = refl
    other_way false false = refl

in_range : (v k n : ℕ) → k ≤ v → v < k + n → list_any (λ u. u == v) (range_with_len k n) ≡ true
in_range v k zero le lt = absurd (omega (arith, le, lt))
in_range v k (suc n) le lt = by_test (k == v) refl (in_range v (k + 1) n)
  where
    by_test : (b : Bool) → (k == v) ≡ b → (k + 1 ≤ v → v < k + 1 + n → list_any (λ u. u == v) (range_with_len (k + 1) n) ≡ true) → list_any (λ u. u == v) (range_with_len k (suc n)) ≡ true
    by_test true e rest = ap (λ b. b || list_any (λ u. u == v) (range_with_len (k + 1) n)) e
    by_test false e rest =
        ap (λ b. b || list_any (λ u. u == v) (range_with_len (k + 1) n)) e
        ∙ rest (let ne = eqb-false k v e in omega (arith, le, ne)) (omega (arith, lt))

-- ---- a member of an enum

own_width : (s : Bool) (w n : ℕ) → 1 ≤ w → n < 2 ^ w → extend_of s w w n ≡ n
own_width s w n some lt = sym (extend_value s w w n some (omega arith) lt) ∙ nothing (fill_of s w n)
  where
    nothing : (b : Bool) → n + 2 ^ w * cond b (2 ^ (w - w) - 1) 0 ≡ n
    nothing true = let none : w - w ≡ 0 = omega arith in ap (λ k. n + 2 ^ w * (2 ^ k - 1)) none ∙ (let e : n + 2 ^ w * 0 ≡ n = omega arith in e)
    nothing false = omega arith

same_width : (s : Bool) (w x : ℕ) → 1 ≤ w → x < 2 ^ w → extend_of s (max w w) w x ≡ x
same_width s w x some lt = let same : max w w ≡ w = omega arith in ap (λ k. extend_of s k w x) same ∙ own_width s w x some lt

one_bit : (b : Bool) → is_set (truth 1 false b) ≡ b
one_bit true = refl
one_bit false = refl

turned_test : (x y : ℕ) → (x == y) ≡ false → (y == x) ≡ false
turned_test x y e = by (y == x) refl
  where
    by : (b : Bool) → (y == x) ≡ b → (y == x) ≡ false
    by true k = absurd (eqb-false x y e (sym (eqb-true y x k)))
    by false k = k

abbrev member_terms : FrameTerm → ℕ → List ℕ → List RangeTerm
member_terms f p vs = map (λ v. one (number_of f p (number v false))) vs

abbrev as_operand : FrameTerm → Reading → ℕ → Operand
as_operand f a p = record { size = width_of f p; sign = is_signed f p; value = λ n t. extend_of t n (width_of f p) (a.element p 0) }

is_member : (f : FrameTerm) (a : Reading) (p : ℕ) (vs : List ℕ) → 1 ≤ width_of f p → a.element p 0 < 2 ^ width_of f p → All (λ v. v < 2 ^ width_of f p) vs
    → fits_some a [] (as_operand f a p) (ranges_of (member_terms f p vs)) ≡ true → list_any (λ u. u == a.element p 0) vs ≡ true
is_member f a p [] some lt low h = absurd (cc)
is_member f a p (v ∷ vs) some lt low h = by_test (v == a.element p 0) refl (is_member f a p vs some lt (All-tail (λ u. u < 2 ^ width_of f p) v vs low))
  where
    by_test : (b : Bool) → (v == a.element p 0) ≡ b → (fits_some a [] (as_operand f a p) (ranges_of (member_terms f p vs)) ≡ true → list_any (λ u. u == a.element p 0) vs ≡ true)
        → list_any (λ u. u == a.element p 0) (v ∷ vs) ≡ true
    by_test true e rest = ap (λ b. b || list_any (λ u. u == a.element p 0) vs) e
    by_test false e rest =
        let left = same_width (is_signed f p && is_signed f p) (width_of f p) (a.element p 0) some lt in
        let right = same_width (is_signed f p && is_signed f p) (width_of f p) v some (All-head (λ u. u < 2 ^ width_of f p) v vs low) in
        let other : (a.element p 0 == v) ≡ false = turned_test v (a.element p 0) e in
        ap (λ b. b || list_any (λ u. u == a.element p 0) vs) e
        ∙ rest (sym (ap (λ b. b || fits_some a [] (as_operand f a p) (ranges_of (member_terms f p vs))) ((λ i. left i == right i) ∙ other)) ∙ h)

-- ---- the domain item of a cyclic property

kind_at : (xs : List Prop) (p e : ℕ) → slice_index_or (map (λ (x : Prop). x.kind.members) xs) p None ≡ Some e → (p < length xs) × ((slice_index_or xs p any_prop).kind.members ≡ Some e)
kind_at [] p e h = cc
kind_at (x ∷ xs) zero e h = (omega arith, h)
kind_at (x ∷ xs) (suc p) e h = let rest = kind_at xs p e h in (omega (arith, rest.0), rest.1)

any_enum : EnumType
any_enum = record { base = record { width = 1; signed = false; members = None }; members = [] }

base_at : (ts : List EnumType) (e : ℕ) → e < length ts → slice_index (map (λ (t : EnumType). t.base.width) ts) e ≡ (slice_index_or ts e any_enum).base.width
base_at [] e h = absurd (omega (arith, h))
base_at (t ∷ ts) zero h = refl
base_at (t ∷ ts) (suc e) h = base_at ts e (omega (arith, h))

values_at : (ts : List EnumType) (e : ℕ) → e < length ts → slice_index_or (map (λ (t : EnumType). map (λ (m : EnumMember). m.value) t.members) ts) e [] ≡ map (λ (m : EnumMember). m.value) (slice_index_or ts e any_enum).members
values_at [] e h = absurd (omega (arith, h))
values_at (t ∷ ts) zero h = refl
values_at (t ∷ ts) (suc e) h = values_at ts e (omega (arith, h))

values_below : (w : ℕ) (ms : List EnumMember) → All (λ (m : EnumMember). m.value < 2 ^ w) ms → All (λ v. v < 2 ^ w) (map (λ (m : EnumMember). m.value) ms)
values_below w [] h = All-nil (λ v. v < 2 ^ w)
values_below w (m ∷ ms) h = All-cons (λ v. v < 2 ^ w) m.value (map (λ (x : EnumMember). x.value) ms) (All-head (λ (x : EnumMember). x.value < 2 ^ w) m ms h) (values_below w ms (All-tail (λ (x : EnumMember). x.value < 2 ^ w) m ms h))

members_below : (f : FrameTerm) → IsSound f → (p : ℕ) (k : Option ℕ) → slice_index_or (map (λ (x : Prop). x.kind.members) f.class.props) p None ≡ k → (vs : List ℕ) → members_of_kind f k ≡ Some vs → All (λ v. v < 2 ^ width_of f p) vs
members_below f sound p None h vs e = cc
members_below f sound p (Some n) h vs e =
    let there = kind_at f.class.props p n h in
    let named = subst (IsOfEnum f.enums (slice_index_or f.class.props p any_prop).kind) there.1 ((sound.props p any_prop there.0).named) in
    let wide : width_of f p ≡ (slice_index_or f.enums n any_enum).base.width = width_at f.class.props p there.0 ∙ sym named.1 ∙ base_at f.enums n named.0 in
    let same : vs ≡ members_of_enum f n = cc in
    subst (λ (xs : List ℕ). All (λ v. v < 2 ^ width_of f p) xs) (sym (same ∙ values_at f.enums n named.0))
    (values_below (width_of f p) (slice_index_or f.enums n any_enum).members
    (subst (λ (w : ℕ). All (λ (m : EnumMember). m.value < 2 ^ w) (slice_index_or f.enums n any_enum).members) (sym wide) ((sound.types n any_enum named.0).below)))

-- the items of one of the scalars that pass a test
met_of : (f : FrameTerm) (a : Reading) (t : ℕ → Bool) (p k n : ℕ) → k ≤ p → p < k + n → t p ≡ true → all_true a (flat_map (domain_item f) (map Scalar (filter t (range_with_len k n)))) ≡ true → all_true a (domain_item f (Scalar p)) ≡ true
met_of f a t p k zero le lt h all = absurd (omega (arith, le, lt))
met_of f a t p k (suc n) le lt h all = by_place (k == p) refl (met_of f a t p (k + 1) n)
  where
    here : (b : Bool) → t k ≡ b → all_true a (flat_map (domain_item f) (map Scalar (cond b (k ∷ filter t (range_with_len (k + 1) n)) (filter t (range_with_len (k + 1) n))))) ≡ true
    here b e = sym (ap (λ c. all_true a (flat_map (domain_item f) (map Scalar (cond c (k ∷ filter t (range_with_len (k + 1) n)) (filter t (range_with_len (k + 1) n)))))) e) ∙ all

    parts : t k ≡ true → (all_true a (domain_item f (Scalar k)) ≡ true) × (all_true a (flat_map (domain_item f) (map Scalar (filter t (range_with_len (k + 1) n)))) ≡ true)
    parts e =
        and_parts (all_true a (domain_item f (Scalar k))) (all_true a (flat_map (domain_item f) (map Scalar (filter t (range_with_len (k + 1) n)))))
        (sym (ap (all_true a) (flat_map-cons (domain_item f) (Scalar k) (map Scalar (filter t (range_with_len (k + 1) n))))
        ∙ list_all-append (is_true a) (domain_item f (Scalar k)) (flat_map (domain_item f) (map Scalar (filter t (range_with_len (k + 1) n)))))
        ∙ here true e)

    rest_met : (b : Bool) → t k ≡ b → all_true a (flat_map (domain_item f) (map Scalar (filter t (range_with_len (k + 1) n)))) ≡ true
    rest_met true e = (parts e).1
    rest_met false e = here false e

    by_place : (b : Bool) → (k == p) ≡ b
        → (k + 1 ≤ p → p < k + 1 + n → t p ≡ true → all_true a (flat_map (domain_item f) (map Scalar (filter t (range_with_len (k + 1) n)))) ≡ true → all_true a (domain_item f (Scalar p)) ≡ true)
        → all_true a (domain_item f (Scalar p)) ≡ true
    by_place true e rest = let same = eqb-true k p e in subst (λ (x : ℕ). all_true a (domain_item f (Scalar x)) ≡ true) same (parts (ap t same ∙ h)).0
    by_place false e rest = rest (let ne = eqb-false k p e in omega (arith, le, ne)) (omega (arith, lt)) h (rest_met (t k) refl)

-- ---- the properties whose turn it is

filter_passes : (t : ℕ → Bool) (xs : List ℕ) → All (λ x. t x ≡ true) (filter t xs)
filter_passes t [] = All-nil (λ x. t x ≡ true)
filter_passes t (x ∷ xs) = by_test (t x) refl (filter_passes t xs)
  where
    by_test : (b : Bool) → t x ≡ b → All (λ y. t y ≡ true) (filter t xs) → All (λ y. t y ≡ true) (cond b (x ∷ filter t xs) (filter t xs))
    by_test true e rest = All-cons (λ y. t y ≡ true) x (filter t xs) e rest
    by_test false e rest = rest

pub next_is_cyclic : (f : FrameTerm) (settled others : List ℕ) (p : ℕ) → cyclic_props f ≡ settled ++ p ∷ others → is_cyclic f p ≡ true
next_is_cyclic f settled others p order = All-head (λ x. is_cyclic f x ≡ true) p others (all_right (λ x. is_cyclic f x ≡ true) settled (p ∷ others) (subst (λ (xs : List ℕ). All (λ x. is_cyclic f x ≡ true) xs) order (filter_passes (is_cyclic f) (props_of f))))

-- ---- no choice

random_within : (xs : List Bool) (p : ℕ) → slice_index_or xs p false ≡ true → p < length xs
random_within [] p h = cc
random_within (x ∷ xs) zero h = omega arith
random_within (x ∷ xs) (suc p) h = let rest = random_within xs p h in omega (arith, rest)

one_more : (f : FrameTerm) (a : Reading) (before : List Choice) (x : Choice) → AreFixed f a (fixed_of before) → a.element x.prop 0 ≡ x.value → AreFixed f a (fixed_of (before ++ x ∷ []))
one_more f a [] x h e = (e, tt)
one_more f a (y ∷ before) x h e = (h.0, one_more f a before x h.1 e)

module _ (f : FrameTerm) (sound : IsSound f) (p : ℕ) (cyclic : is_cyclic f p ≡ true) where
  within : p < length f.class.props
  within = omega (arith, random_within f.random p (and_parts (is_random f p) _ cyclic).0, sound.random)

  -- an assignment that meets the items of the cyclic properties has a value of the domain
  in_domain : (fixed : List (ℕ × ℕ)) (a : Reading) → IsAssignment f Randc f.state.sizes fixed a → all_true a (hard_of f Randc f.state.sizes) ≡ true → list_any (λ u. u == a.element p 0) (domain_of f p) ≡ true
  in_domain fixed a is meets = by_members (members_of f p) refl
    where
      low : a.element p 0 < 2 ^ width_of f p
      low = number_fits f a f.state.sizes sound (state_sizes_fit f sound) Randc fixed is p 0

      domains : all_true a (domain_items f Randc f.state.sizes) ≡ true
      domains =
          let front = and_parts (all_true a (domain_items f Randc f.state.sizes ++ size_items f Randc)) (all_true a (asked_of f Randc f.state.sizes))
          (sym (list_all-append (is_true a) (domain_items f Randc f.state.sizes ++ size_items f Randc) (asked_of f Randc f.state.sizes)) ∙ meets) in
          (and_parts (all_true a (domain_items f Randc f.state.sizes)) (all_true a (size_items f Randc)) (sym (list_all-append (is_true a) (domain_items f Randc f.state.sizes) (size_items f Randc)) ∙ front.0)).0

      own : all_true a (domain_item f (Scalar p)) ≡ true
      own = met_of f a (is_cyclic f) p 0 (length f.class.props) (omega arith) (omega (arith, within)) cyclic domains

      by_members : (o : Option (List ℕ)) → members_of f p ≡ o → list_any (λ u. u == a.element p 0) (domain_of f p) ≡ true
      by_members None e = ap (λ (o : Option (List ℕ)). list_any (λ u. u == a.element p 0) (domain_from f (width_of f p) o)) e ∙ in_range (a.element p 0) 0 (2 ^ width_of f p) (omega arith) (omega (arith, low))
      by_members (Some vs) e =
          let some = (width_fits f sound p within).0 in
          let item : fits_some a [] (as_operand f a p) (ranges_of (member_terms f p vs)) ≡ true
          = sym (one_bit (fits_some a [] (as_operand f a p) (ranges_of (member_terms f p vs)))) ∙ (and_parts _ _ (sym (ap (λ (o : Option (List ℕ)). all_true a (among_members f p (prop p) o)) e) ∙ own)).0 in
          ap (λ (o : Option (List ℕ)). list_any (λ u. u == a.element p 0) (domain_from f (width_of f p) o)) e
          ∙ is_member f a p vs some low (members_below f sound p (slice_index_or (map (λ (x : Prop). x.kind.members) f.class.props) p None) refl vs e) item

  pub no_choice : (c : Cycles) (before : List Choice) → HasNoChoice f c before p → Sat f Randc f.state.sizes (fixed_of before) (hard_of f Randc f.state.sizes) → ⊥
  no_choice c before none sat =
      let a = sat.0 in
      let is = sat.1 in
      let domain = domain_of f p in
      let word = c.words (length before) in
      let refused : All (λ v. Fits f before (record { prop = p; value = v; cycle = true }) → ⊥) (turned word domain)
      = all_mapped (λ (t : Choice). Fits f before t → ⊥) (λ v. record { prop = p; value = v; cycle = true }) (turned word domain)
      (all_right (λ (t : Choice). Fits f before t → ⊥) (map (λ v. record { prop = p; value = v; cycle = false }) (turned word (unused (slice_index_or c.used p []) domain))) (map (λ v. record { prop = p; value = v; cycle = true }) (turned word domain)) none) in
      let there : list_any (λ u. u == a.element p 0) (turned word domain) ≡ true = turned_any (λ u. u == a.element p 0) word domain ∙ in_domain (fixed_of before) a is sat.2 in
      all_at (λ v. Fits f before (record { prop = p; value = v; cycle = true }) → ⊥) (turned word domain) (a.element p 0) there refused
      (a, record { fits = is.fits; same_numbers = is.same_numbers; same_sizes = is.same_sizes; same_script = is.same_script; chosen = one_more f a before (record { prop = p; value = a.element p 0; cycle = true }) is.chosen refl }, sat.2)
