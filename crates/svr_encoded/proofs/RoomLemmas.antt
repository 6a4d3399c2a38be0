-- The bits of a phase are few: there are at most `PROPERTY_LIMIT` properties, 32 arrays and 64 bits a number
use Rattle.std.proofs.Common.{◌≡◌, ℕ, zero, suc, ◌+◌, ◌*◌, ◌<◌, ◌≤◌, ◌^◌, Bool, true, false, cond, not, ◌&&◌, List, [], ◌∷◌, ◌++◌, length, map, sum, get_or, refl, sym, ap, ◌∙◌, arith, subst}
use Rattle.std.specs.Prelude.{filter, slice_index, slice_index_or}
use Rattle.std.specs.List.{flat_map, range_with_len, All}
use Rattle.std.proofs.lemmas.List.Elements.{All-head, All-tail}
use Rattle.std.proofs.lemmas.List.Sums.{sum_by-cons}
use Rattle.svr_limits.specs.declared.limit.TheConstants.{ELEMENT_LIMIT, PROPERTY_LIMIT}
use Rattle.svr_typed.specs.declared.class.Prop.{Prop}
use Rattle.svr_typed.specs.declared.class.EnumType.{EnumType}
use Rattle.svr_frame.specs.declared.slot.Slot.{Slot}
use Rattle.svr_frame.specs.declared.slot.Slot.TheVariants.{Scalar, Element, Size}
use Rattle.svr_frame.specs.declared.part.Part.{Part}
use Rattle.svr_frame.specs.declared.part.Part.TheVariants.{Randc, Sizes, All as Whole}
use Rattle.svr_frame.specs.Frame.{FrameTerm, props_of, is_array, is_random, is_cyclic, has_free_size, width_of}
use Rattle.svr_frame.specs.Sound.{IsProp, IsSound, SizesFit}
use Rattle.svr_frame.specs.Phases.{cyclic_slots, size_slots, scalar_slots, element_slots, is_random_array, unknowns_of}
use Rattle.svr_encoded.specs.Slots.{bits_of_slot, widths_of}

width_at : (ts : List EnumType) (props : List Prop) (p : ℕ) → All (IsProp ts) props → slice_index (map (λ (x : Prop). x.kind.width) props) p ≤ 64
width_at ts [] p h = omega arith
width_at ts (x ∷ props) zero h = (All-head (IsProp ts) x props h).wide.1
width_at ts (x ∷ props) (suc p) h = width_at ts props p (All-tail (IsProp ts) x props h)

slot_most : (f : FrameTerm) (sb : ℕ) (s : Slot) → IsSound f → sb ≤ 32 → bits_of_slot f sb s ≤ 64
slot_most f sb (Scalar p) h m = width_at f.enums f.class.props p h.props
slot_most f sb (Element p i) h m = width_at f.enums f.class.props p h.props
slot_most f sb (Size p) h m = omega (arith, m)

sum_most : (f : FrameTerm) (sb : ℕ) (slots : List Slot) → IsSound f → sb ≤ 32 → sum (widths_of f sb slots) ≤ 64 * length slots
sum_most f sb [] h m = omega arith
sum_most f sb (s ∷ slots) h m = omega (arith, sum_by-cons (λ (x : ℕ). x) (bits_of_slot f sb s) (widths_of f sb slots), slot_most f sb s h m, sum_most f sb slots h m)

range_len : (a n : ℕ) → length (range_with_len a n) ≡ n
range_len a zero = refl
range_len a (suc n) = ap suc (range_len (a + 1) n)

kept_most : (g : ℕ → Bool) (xs : List ℕ) → length (filter g xs) ≤ length xs
kept_most g [] = omega arith
kept_most g (x ∷ xs) = by_test (g x) (kept_most g xs) where
  by_test : (b : Bool) → length (filter g xs) ≤ length xs → length (cond b (x ∷ filter g xs) (filter g xs)) ≤ suc (length xs)
  by_test true h = omega (arith, h)
  by_test false h = omega (arith, h)

map_len : (make : ℕ → Slot) (xs : List ℕ) → length (map make xs) ≡ length xs
map_len make [] = refl
map_len make (x ∷ xs) = ap suc (map_len make xs)

both_len : (xs ys : List Slot) → length (xs ++ ys) ≡ length xs + length ys
both_len [] ys = omega arith
both_len (x ∷ xs) ys = omega (arith, both_len xs ys)

made_most : (make : ℕ → Slot) (g : ℕ → Bool) (n : ℕ) → length (map make (filter g (range_with_len 0 n))) ≤ n
made_most make g n = omega (arith, map_len make (filter g (range_with_len 0 n)), kept_most g (range_with_len 0 n), range_len 0 n)

fewer : (a b : ℕ → Bool) (xs : List ℕ) → length (filter (λ p. a p && b p) xs) ≤ length (filter b xs)
fewer a b [] = omega arith
fewer a b (x ∷ xs) = by_test (a x) (b x) (fewer a b xs) where
  by_test : (p q : Bool) → length (filter (λ y. a y && b y) xs) ≤ length (filter b xs) → length (cond (p && q) (x ∷ filter (λ y. a y && b y) xs) (filter (λ y. a y && b y) xs)) ≤ length (cond q (x ∷ filter b xs) (filter b xs))
  by_test true true h = omega (arith, h)
  by_test true false h = h
  by_test false true h = omega (arith, h)
  by_test false false h = h

all_elements : (ns xs : List ℕ) → ((p : ℕ) → slice_index ns p ≤ ELEMENT_LIMIT) → length (flat_map (λ p. map (Element p) (range_with_len 0 (slice_index ns p))) xs) ≤ ELEMENT_LIMIT * length xs
all_elements ns [] h = omega arith
all_elements ns (x ∷ xs) h =
    let here = map (Element x) (range_with_len 0 (slice_index ns x)) in
    let rest = flat_map (λ p. map (Element p) (range_with_len 0 (slice_index ns p))) xs in
    omega (arith, both_len here rest, map_len (Element x) (range_with_len 0 (slice_index ns x)), range_len 0 (slice_index ns x), h x, all_elements ns xs h)

slots_most : (f : FrameTerm) (part : Part) (ns : List ℕ) → IsSound f → SizesFit f ns → length (unknowns_of f part ns) ≤ 3 * PROPERTY_LIMIT + 32 * ELEMENT_LIMIT
slots_most f Randc ns h k = omega (arith, made_most Scalar (is_cyclic f) (length f.class.props), h.properties)
slots_most f Sizes ns h k =
    omega (
      arith,
      both_len (cyclic_slots f ++ size_slots f) (scalar_slots f),
      both_len (cyclic_slots f) (size_slots f),
      made_most Scalar (is_cyclic f) (length f.class.props),
      made_most Size (has_free_size f) (length f.class.props),
      made_most Scalar (λ p. is_random f p && not (is_array f p) && not (is_cyclic f p)) (length f.class.props),
      h.properties,
    )
slots_most f Whole ns h k =
    omega (
      arith,
      both_len (cyclic_slots f ++ scalar_slots f) (element_slots f ns),
      both_len (cyclic_slots f) (scalar_slots f),
      made_most Scalar (is_cyclic f) (length f.class.props),
      made_most Scalar (λ p. is_random f p && not (is_array f p) && not (is_cyclic f p)) (length f.class.props),
      all_elements ns (filter (is_random_array f) (props_of f)) k.most,
      fewer (is_random f) (is_array f) (props_of f),
      h.arrays,
      h.properties,
    )

-- a phase has fewer bits than there are numbers of 32 bits
pub few_bits : (f : FrameTerm) (part : Part) (ns : List ℕ) (sb : ℕ) → IsSound f → SizesFit f ns → sb ≤ 32 → sum (widths_of f sb (unknowns_of f part ns)) < 2 ^ 32
few_bits f part ns sb h k m = omega (arith, sum_most f sb (unknowns_of f part ns) h m, slots_most f part ns h k)

pub few_slots : (f : FrameTerm) (part : Part) (ns : List ℕ) → IsSound f → SizesFit f ns → length (unknowns_of f part ns) < 2 ^ 32
few_slots f part ns h k = omega (arith, slots_most f part ns h k)
