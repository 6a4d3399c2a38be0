-- The items of the unknowns themselves weigh what the properties weigh one by one.
use Rattle.std.proofs.Common.{◌≡◌, ℕ, zero, suc, ◌+◌, ◌*◌, Bool, true, false, not, ◌&&◌, ◌||◌, refl, sym, ◌∙◌, ap, add-one, List, [], ◌∷◌, ◌++◌, map, length, Option, None, Some, arith}
use Rattle.std.specs.Prelude.{filter, if◌then◌else◌, slice_index}
use Rattle.std.specs.List.{flat_map, range_with_len}
use Rattle.std.proofs.lemmas.Grind.{flat_map-append}
use Rattle.std.proofs.lemmas.List.Concat.{flat_map-cons}
use Rattle.svr_typed.specs.ExprTerm.{ExprTerm, typed, NodeTerm, number, prop, element, inside, one, ranges_of}
use Rattle.svr_eval.specs.Value.{size_of}
use Rattle.svr_frame.specs.declared.part.Part.{Part}
use Rattle.svr_frame.specs.declared.part.Part.TheVariants.{Randc, Sizes, All}
use Rattle.svr_frame.specs.declared.slot.Slot.{Slot}
use Rattle.svr_frame.specs.declared.slot.Slot.TheVariants.{Scalar, Element, Size}
use Rattle.svr_frame.specs.Frame.{FrameTerm, is_array, is_random, is_cyclic, has_free_size, width_of, is_signed, members_of, props_of}
use Rattle.svr_frame.specs.Closed.{index_number}
use Rattle.svr_frame.specs.Occurrences.{Occurrence}
use Rattle.svr_frame.specs.Phases.{shape_at, sought_sizes, number_of, among_members, domain_item, domain_items, not_negative, at_most, size_items, cyclic_slots, scalar_slots, size_slots, is_random_array, element_slots, active_at}
use Rattle.svr_frame.specs.Weight as weight
use Rattle.svr_frame.specs.Weight.{capped, total, occurrence_cost, bounds_of, weight_of, counts}
use Rattle.svr_weight.specs.Weighing.{domain_weight_from, domain_weight, is_scalar_unknown, number_count, bounds_weight, properties_weight, phase_weight}
use Rattle.svr_weight.proofs.Weights.{cost_closed}
use Rattle.svr_weight.proofs.Weighed.{active_weigh}

-- ---- sums over properties

abbrev sum_over : (ℕ → ℕ) → List ℕ → ℕ
sum_over g [] = 0
sum_over g (p ∷ ps) = g p + sum_over g ps

sum_two : (g h : ℕ → ℕ) (ps : List ℕ) → sum_over g ps + sum_over h ps ≡ sum_over (λ p. g p + h p) ps
sum_two g h [] = omega arith
sum_two g h (p ∷ ps) = omega (arith, sum_two g h ps)

sum_same : (g h : ℕ → ℕ) → ((p : ℕ) → g p ≡ h p) → (ps : List ℕ) → sum_over g ps ≡ sum_over h ps
sum_same g h k [] = refl
sum_same g h k (p ∷ ps) = λ i. k p i + sum_same g h k ps i

sum_last : (g : ℕ → ℕ) (a n : ℕ) → sum_over g (range_with_len a (suc n)) ≡ sum_over g (range_with_len a n) + g (a + n)
sum_last g a zero = let e : a + 0 ≡ a = omega arith in rw e (omega arith)
sum_last g a (suc n) =
    let e : a + 1 + n ≡ a + suc n = omega arith in
    let rest = sum_last g (a + 1) n in
    let next = ap g e in
    omega (arith, rest, next)

module _ (f : FrameTerm) (part : Part) (ns : List ℕ) where
  abbrev all : List Occurrence → ℕ
  all os = total (shape_at f ns) (sought_sizes f part) os

  abbrev cost_of : ExprTerm → ℕ
  cost_of e = weight.own_cost (shape_at f ns) (sought_sizes f part) e

  all_append : (os ps : List Occurrence) → all (os ++ ps) ≡ all os + all ps
  all_append [] ps = omega arith
  all_append (o ∷ os) ps = omega (arith, all_append os ps)

  -- ---- one property

  members_weigh : (w : ℕ) (s : Bool) (vs : List ℕ) → weight.ranges_cost (shape_at f ns) (sought_sizes f part) w (ranges_of (map (λ v. one (typed w s (number v false))) vs)) ≡ length vs * (w + 1)
  members_weigh w s [] = omega arith
  members_weigh w s (v ∷ vs) = let rest = members_weigh w s vs in omega (arith, rest)

  -- what a domain item weighs of a node that weighs 1
  node_weighs : (p : ℕ) (n : NodeTerm) (vs : Option (List ℕ)) → cost_of (number_of f p n) ≡ 1 → size_of (number_of f p n) ≡ width_of f p → all (among_members f p n vs) ≡ domain_weight_from f (width_of f p) vs
  node_weighs p n None h k = refl
  node_weighs p n (Some vs) h k =
      let rs = ranges_of (map (λ v. one (number_of f p (number v false))) vs) in
      let same = cost_closed (shape_at f ns) (sought_sizes f part) [] 0 (typed 1 false (inside (number_of f p n) rs)) 1 in
      let parts : cost_of (number_of f p n) + weight.ranges_cost (shape_at f ns) (sought_sizes f part) (size_of (number_of f p n)) rs ≡ 1 + length vs * (width_of f p + 1) =
      (λ i. h i + weight.ranges_cost (shape_at f ns) (sought_sizes f part) (k i) rs) ∙ ap (λ m. 1 + m) (members_weigh (width_of f p) (is_signed f p) vs) in
      let whole = same ∙ parts in
      omega (arith, whole)

  scalar_weighs : (p : ℕ) → all (domain_item f (Scalar p)) ≡ domain_weight f p
  scalar_weighs p = node_weighs p (prop p) (members_of f p) refl refl

  element_weighs : (p i : ℕ) → all (domain_item f (Element p i)) ≡ domain_weight f p
  element_weighs p i = node_weighs p (element p (index_number i)) (members_of f p) refl refl

  elements_weigh : (p a n : ℕ) → all (flat_map (domain_item f) (map (Element p) (range_with_len a n))) ≡ n * domain_weight f p
  elements_weigh p a zero = omega arith
  elements_weigh p a (suc n) =
      let rest = elements_weigh p (a + 1) n in
      let first = element_weighs p a in
      ap all (flat_map-cons (domain_item f) (Element p a) (map (Element p) (range_with_len (a + 1) n)))
      ∙ all_append (domain_item f (Element p a)) (flat_map (domain_item f) (map (Element p) (range_with_len (a + 1) n)))
      ∙ next n (domain_weight f p) (all (domain_item f (Element p a))) (all (flat_map (domain_item f) (map (Element p) (range_with_len (a + 1) n)))) first rest
    where
      next : (m d a b : ℕ) → a ≡ d → b ≡ m * d → a + b ≡ suc m * d
      next m d a b h k = omega (arith, h, k)

  -- ---- those that pass a test

  scalars_weigh : (t : ℕ → Bool) (ps : List ℕ) → all (flat_map (domain_item f) (map Scalar (filter t ps))) ≡ sum_over (λ p. if t p then domain_weight f p else 0) ps
  scalars_weigh t [] = refl
  scalars_weigh t (p ∷ ps) = by_test (t p) refl (scalars_weigh t ps)
    where
      by_test : (b : Bool) → t p ≡ b → all (flat_map (domain_item f) (map Scalar (filter t ps))) ≡ sum_over (λ q. if t q then domain_weight f q else 0) ps
          → all (flat_map (domain_item f) (map Scalar (filter t (p ∷ ps)))) ≡ sum_over (λ q. if t q then domain_weight f q else 0) (p ∷ ps)
      by_test true e rest =
          rw e (ap all (flat_map-cons (domain_item f) (Scalar p) (map Scalar (filter t ps)))
          ∙ all_append (domain_item f (Scalar p)) (flat_map (domain_item f) (map Scalar (filter t ps)))
          ∙ (λ i. scalar_weighs p i + rest i))
      by_test false e rest = rw e (omega (arith, rest))

  arrays_weigh : (t : ℕ → Bool) (ps : List ℕ)
      → all (flat_map (domain_item f) (flat_map (λ p. map (Element p) (range_with_len 0 (slice_index ns p))) (filter t ps))) ≡ sum_over (λ p. if t p then slice_index ns p * domain_weight f p else 0) ps
  arrays_weigh t [] = refl
  arrays_weigh t (p ∷ ps) = by_test (t p) refl (arrays_weigh t ps)
    where
      by_test : (b : Bool) → t p ≡ b
          → all (flat_map (domain_item f) (flat_map (λ q. map (Element q) (range_with_len 0 (slice_index ns q))) (filter t ps))) ≡ sum_over (λ q. if t q then slice_index ns q * domain_weight f q else 0) ps
          → all (flat_map (domain_item f) (flat_map (λ q. map (Element q) (range_with_len 0 (slice_index ns q))) (filter t (p ∷ ps)))) ≡ sum_over (λ q. if t q then slice_index ns q * domain_weight f q else 0) (p ∷ ps)
      by_test true e rest =
          rw e (ap (λ (ss : List Slot). all (flat_map (domain_item f) ss)) (flat_map-cons (λ q. map (Element q) (range_with_len 0 (slice_index ns q))) p (filter t ps))
          ∙ ap all (flat_map-append (domain_item f) (map (Element p) (range_with_len 0 (slice_index ns p))) (flat_map (λ q. map (Element q) (range_with_len 0 (slice_index ns q))) (filter t ps)))
          ∙ all_append (flat_map (domain_item f) (map (Element p) (range_with_len 0 (slice_index ns p)))) (flat_map (domain_item f) (flat_map (λ q. map (Element q) (range_with_len 0 (slice_index ns q))) (filter t ps)))
          ∙ (λ i. elements_weigh p 0 (slice_index ns p) i + rest i))
      by_test false e rest = rw e (omega (arith, rest))

  no_sizes_weigh : (ps : List ℕ) → all (flat_map (domain_item f) (map Size ps)) ≡ 0
  no_sizes_weigh [] = refl
  no_sizes_weigh (p ∷ ps) = ap all (flat_map-cons (domain_item f) (Size p) (map Size ps)) ∙ no_sizes_weigh ps

  lows_weigh : (t : ℕ → Bool) (ps : List ℕ) → all (map (not_negative f) (filter t ps)) ≡ sum_over (λ p. if t p then 34 else 0) ps
  lows_weigh t [] = refl
  lows_weigh t (p ∷ ps) = by_test (t p) refl (lows_weigh t ps)
    where
      by_test : (b : Bool) → t p ≡ b → all (map (not_negative f) (filter t ps)) ≡ sum_over (λ q. if t q then 34 else 0) ps → all (map (not_negative f) (filter t (p ∷ ps))) ≡ sum_over (λ q. if t q then 34 else 0) (p ∷ ps)
      by_test true e rest = rw e (ap (λ n. 34 + n) rest)
      by_test false e rest = rw e (omega (arith, rest))

  caps_weigh : (t : ℕ → Bool) (ps : List ℕ) → all (map (at_most f 0) (filter t ps)) ≡ sum_over (λ p. if t p then 34 else 0) ps
  caps_weigh t [] = refl
  caps_weigh t (p ∷ ps) = by_test (t p) refl (caps_weigh t ps)
    where
      by_test : (b : Bool) → t p ≡ b → all (map (at_most f 0) (filter t ps)) ≡ sum_over (λ q. if t q then 34 else 0) ps → all (map (at_most f 0) (filter t (p ∷ ps))) ≡ sum_over (λ q. if t q then 34 else 0) (p ∷ ps)
      by_test true e rest = rw e (ap (λ n. 34 + n) rest)
      by_test false e rest = rw e (omega (arith, rest))

  -- ---- the numbers that are looked for

  once : (c : Bool) (d : ℕ) → (if c then d else 0) ≡ (if c then 1 else 0) * d + 0
  once true d = omega arith
  once false d = omega arith

  -- a scalar is cyclic or not
  either : (c t : Bool) (d : ℕ) → (if c then d else 0) + (if t && not c then d else 0) ≡ (if c || t then 1 else 0) * d
  either true true d = omega arith
  either true false d = omega arith
  either false true d = omega arith
  either false false d = omega arith

  both_bounds : (b : Bool) → (if b then 34 else 0) + (if b then 34 else 0) ≡ (if b then 68 else 0)
  both_bounds true = refl
  both_bounds false = refl

  many : (b : Bool) (a n d : ℕ) → a * d + (if b then n * d else 0) ≡ (a + (if b then n else 0)) * d + 0
  many true a n d = omega arith
  many false a n d = omega arith

  abbrev cyclic_weight : ℕ → ℕ
  cyclic_weight p = if is_cyclic f p then domain_weight f p else 0

  abbrev scalar_weight : ℕ → ℕ
  scalar_weight p = if is_random f p && not (is_array f p) && not (is_cyclic f p) then domain_weight f p else 0

  abbrev array_weight : ℕ → ℕ
  array_weight p = if is_random f p && is_array f p then slice_index ns p * domain_weight f p else 0

  abbrev bound_weight : ℕ → ℕ
  bound_weight p = if has_free_size f p then 34 else 0

  abbrev weight_in : Part → ℕ → ℕ
  weight_in q p = number_count f ns q p * domain_weight f p + bounds_weight f q p

  in_sizes : (p : ℕ) → (cyclic_weight p + scalar_weight p) + (bound_weight p + bound_weight p) ≡ weight_in Sizes p
  in_sizes p = λ i. either (is_cyclic f p) (is_random f p && not (is_array f p)) (domain_weight f p) i + both_bounds (has_free_size f p) i

  in_all : (p : ℕ) → (cyclic_weight p + scalar_weight p) + array_weight p ≡ weight_in All p
  in_all p =
      ap (λ n. n + array_weight p) (either (is_cyclic f p) (is_random f p && not (is_array f p)) (domain_weight f p))
      ∙ many (is_random f p && is_array f p) (if is_scalar_unknown f p then 1 else 0) (slice_index ns p) (domain_weight f p)

  abbrev domains : List Slot → ℕ
  domains ss = all (flat_map (domain_item f) ss)

  domains_append : (ss ts : List Slot) → domains (ss ++ ts) ≡ domains ss + domains ts
  domains_append ss ts = ap all (flat_map-append (domain_item f) ss ts) ∙ all_append (flat_map (domain_item f) ss) (flat_map (domain_item f) ts)

  fronts : (q : Part) → all (domain_items f q ns ++ size_items f q ++ bounds_of f q) ≡ sum_over (weight_in q) (props_of f)
  fronts Randc =
      let one = scalars_weigh (is_cyclic f) (props_of f) in
      let left = all_append (domain_items f Randc ns ++ []) [] in
      let right = all_append (domain_items f Randc ns) [] in
      let same = sum_same cyclic_weight (weight_in Randc) (λ p. once (is_cyclic f p) (domain_weight f p)) (props_of f) in
      omega (arith, one, left, right, same)
  fronts Sizes =
      let one = scalars_weigh (is_cyclic f) (props_of f) in
      let two = no_sizes_weigh (filter (has_free_size f) (props_of f)) in
      let three = scalars_weigh (λ p. is_random f p && not (is_array f p) && not (is_cyclic f p)) (props_of f) in
      let four = lows_weigh (has_free_size f) (props_of f) in
      let five = caps_weigh (has_free_size f) (props_of f) in
      let left = all_append (domain_items f Sizes ns ++ size_items f Sizes) (bounds_of f Sizes) in
      let right = all_append (domain_items f Sizes ns) (size_items f Sizes) in
      let front = domains_append (cyclic_slots f ++ size_slots f) (scalar_slots f) in
      let first = domains_append (cyclic_slots f) (size_slots f) in
      let pair = sum_two cyclic_weight scalar_weight (props_of f) in
      let bounds = sum_two bound_weight bound_weight (props_of f) in
      let both = sum_two (λ p. cyclic_weight p + scalar_weight p) (λ p. bound_weight p + bound_weight p) (props_of f) in
      let same = sum_same (λ p. (cyclic_weight p + scalar_weight p) + (bound_weight p + bound_weight p)) (weight_in Sizes) in_sizes (props_of f) in
      omega (arith, one, two, three, four, five, left, right, front, first, pair, bounds, both, same)
  fronts All =
      let one = scalars_weigh (is_cyclic f) (props_of f) in
      let two = scalars_weigh (λ p. is_random f p && not (is_array f p) && not (is_cyclic f p)) (props_of f) in
      let three = arrays_weigh (is_random_array f) (props_of f) in
      let left = all_append (domain_items f All ns ++ []) [] in
      let right = all_append (domain_items f All ns) [] in
      let front = domains_append (cyclic_slots f ++ scalar_slots f) (element_slots f ns) in
      let first = domains_append (cyclic_slots f) (scalar_slots f) in
      let pair = sum_two cyclic_weight scalar_weight (props_of f) in
      let both = sum_two (λ p. cyclic_weight p + scalar_weight p) array_weight (props_of f) in
      let same = sum_same (λ p. (cyclic_weight p + scalar_weight p) + array_weight p) (weight_in All) in_all (props_of f) in
      omega (arith, one, two, three, left, right, front, first, pair, both, same)

  first_properties : (n : ℕ) → sum_over (weight_in part) (range_with_len 0 n) ≡ properties_weight f part ns n
  first_properties zero = refl
  first_properties (suc n) =
      let rest = first_properties n in
      let last = sum_last (weight_in part) 0 n in
      let at : 0 + n ≡ n = omega arith in
      let next = ap (weight_in part) at in
      omega (arith, rest, last, next)

  -- one more property
  pub property_added : (p sum count domain bounds domains own next : ℕ) → next ≡ capped (sum + own) → own ≡ capped (domains + bounds) → domains ≡ capped (count * domain)
      → count ≡ number_count f ns part p → domain ≡ domain_weight f p → bounds ≡ bounds_weight f part p → sum ≡ capped (properties_weight f part ns p) → next ≡ capped (properties_weight f part ns (p + 1))
  property_added p sum count domain bounds domains own next h i j c d b before =
      step (properties_weight f part ns p) (number_count f ns part p * domain_weight f p) (bounds_weight f part p) before (j ∙ (λ k. capped (c k * d k))) b
      ∙ ap (λ n. capped (properties_weight f part ns n)) (sym (add-one p))
    where
      step : (q x y : ℕ) → sum ≡ capped q → domains ≡ capped x → bounds ≡ y → next ≡ capped (q + (x + y))
      step q x y e g k = omega (arith, h, i, e, g, k)

  -- ---- the phase

  pub phase_weighed : weight_of f part ns ≡ capped (phase_weight f part ns)
  phase_weighed =
      let front = fronts part in
      let props = first_properties (length f.class.props) in
      let items = active_weigh f part ns in
      let both = all_append (domain_items f part ns ++ size_items f part ++ bounds_of f part) (filter (counts f part ns) (active_at f ns)) in
      omega (arith, front, props, items, both)
