-- The assignment that a call prefers: each random variable takes one word of the call (IEEE 1800-2017, 18.4, and 18.5.4 for weights).
use Rattle.std.specs.Prelude.{◌==◌, ℕ, zero, suc, ◌+◌, ◌-◌, ◌*◌, ◌/◌, ◌%◌, ◌^◌, ℤ, pos, negsuc, ◌+ℤ◌, ◌-ℤ◌, Bool, true, false, not, ◌&&◌, ◌||◌, nat_lt, if◌then◌else◌, List, [], ◌∷◌, ◌++◌, Option, None, Some, map, length, slice_index, sum}
use Rattle.std.specs.List.{list_any}
use Rattle.svr_num.specs.Num.{residue}
use Rattle.svr_operator.specs.declared.Share.{Share}
use Rattle.svr_operator.specs.declared.Share.TheVariants.{Each, Whole}
use Rattle.svr_typed.specs.ExprTerm.{ExprTerm, typed, NodeTerm, prop, RangeTerm, one, span, BoundTerm, value, dollar}
use Rattle.svr_typed.specs.ItemTerm.{DistTerm, ItemTerm, plain, unique, implies, branch, foreach, disable, solve, ItemTerms, no_items, more_items}
use Rattle.svr_eval.specs.Reading.{Reading}
use Rattle.svr_eval.specs.Value.{alone, index_read, property_of}
use Rattle.svr_frame.specs.declared.part.Part.{Part}
use Rattle.svr_frame.specs.declared.part.Part.TheVariants.{Randc, Sizes, All}
use Rattle.svr_frame.specs.declared.slot.Slot.{Slot}
use Rattle.svr_frame.specs.declared.slot.Slot.TheVariants.{Scalar, Element, Size}
use Rattle.svr_frame.specs.Frame.{FrameTerm, is_random, width_of, is_signed, members_of, state_at}
use Rattle.svr_frame.specs.Reads.{property_read, range_reads}
use Rattle.svr_frame.specs.Phases.{shape_at, size_slots, scalar_slots, element_slots}
use Rattle.svr_frame.specs.Satisfaction.{is_at, is_size_of}

-- ---- which word serves what

-- each slot with its number, from n on
abbrev pub with_words : ℕ → List Slot → List (Slot × ℕ)
with_words n [] = []
with_words n (s ∷ ss) = (s, n) ∷ with_words (suc n) ss

-- Behind the words of the cyclic properties: the free sizes, the other scalars, the elements. A scalar has the same word in both phases.
abbrev pub draws_of : FrameTerm → Part → List ℕ → List (Slot × ℕ)
draws_of f Randc sizes = []
draws_of f Sizes sizes = with_words 0 (size_slots f ++ scalar_slots f)
draws_of f All sizes = with_words (length (size_slots f)) (scalar_slots f ++ element_slots f sizes)

-- ---- a scalar that a distribution picks by weight (18.5.4)

-- the distribution of a scalar at the top of the items
abbrev pub dist_on : ℕ → Bool → Option ℕ → Option (List DistTerm) → List (List DistTerm)
dist_on p soft None dist = []
dist_on p soft (Some q) None = []
dist_on p soft (Some q) (Some ds) = if not soft && (p == q) then ds ∷ [] else []

-- that of one item
abbrev pub item_dists : ℕ → ItemTerm → List (List DistTerm)
item_dists p (plain soft e dist) = dist_on p soft (property_of e) dist
item_dists p (unique es) = []
item_dists p (implies t body) = []
item_dists p (branch t met unmet) = []
item_dists p (foreach q m names body) = []
item_dists p (disable target) = []
item_dists p (solve first later) = []

-- those that are hard, under no test and in no loop, and whose whole left side is the scalar
abbrev pub dists_on : ℕ → ItemTerms → List (List DistTerm)
dists_on p no_items = []
dists_on p (more_items i is) = item_dists p i ++ dists_on p is

-- so many places in a row; the value at the t-th of them, from 0
pub record Places : Type 0 where
  pub places : ℕ
  pub value : ℕ → ℤ

-- a natural number, 0 below 0
abbrev pub natural : ℤ → ℕ
natural (pos n) = n
natural (negsuc n) = 0

-- the least and the greatest number of a type
abbrev pub least : ℕ → Bool → ℤ
least w signed = if signed then pos 0 -ℤ pos (2 ^ (w - 1)) else pos 0

abbrev pub greatest : ℕ → Bool → ℤ
greatest w signed = if signed then pos (2 ^ (w - 1) - 1) else pos (2 ^ w - 1)

-- how many values there are from low to high
abbrev pub values_between : ℤ → ℤ → ℕ
values_between low high = natural (high -ℤ low +ℤ pos 1)

-- with `:=` each value has so many places, with `:/` all together have them
abbrev pub span_share : Share → ℕ → ℤ → ℕ → Places
span_share Each g low m = record { places = m * g; value = λ t. low +ℤ pos (t / g) }
span_share Whole g low m = record { places = if m == 0 then 0 else g; value = λ t. low +ℤ pos (t * m / g) }

-- the value at a number of places
abbrev pub pick_at : List Places → ℕ → ℤ
pick_at [] r = pos 0
pick_at (c ∷ cs) r = if nat_lt r c.places then c.value r else pick_at cs (r - c.places)

-- a number of places that a word can count
abbrev pub has_places : ℕ → Bool
has_places n = not (n == 0) && nat_lt n (2 ^ 64)

abbrev pub places_of : List Places → ℕ
places_of cs = sum (map (λ (c : Places). c.places) cs)

module _ (f : FrameTerm) where
  -- a word as a member of an enum, or cut to the width of other types
  abbrev pub from_domain : ℕ → Option (List ℕ) → ℕ → ℕ
  from_domain p None word = word % 2 ^ width_of f p
  from_domain p (Some vs) word = slice_index vs (word % length vs)

  abbrev pub from_shares : ℕ → List Places → ℕ → ℕ
  from_shares p cs word = residue (width_of f p) (pick_at cs (word % places_of cs))

-- where no weight is written it is `:= 1`
abbrev pub kind_of : Option (Share × ExprTerm) → Share
kind_of None = Each
kind_of (Some w) = w.0

-- a weight is its expression's bits, unsigned
abbrev pub weight_in : Reading → Option (Share × ExprTerm) → ℕ
weight_in a None = 1
weight_in a (Some w) = alone a [] w.1

-- the bounds and weights are those of a reading
module _ (f : FrameTerm) (a : Reading) where
  abbrev pub low_bound : ℕ → BoundTerm → ℤ
  low_bound p (value e) = index_read a [] e
  low_bound p dollar = least (width_of f p) (is_signed f p)

  abbrev pub high_bound : ℕ → BoundTerm → ℤ
  high_bound p (value e) = index_read a [] e
  high_bound p dollar = greatest (width_of f p) (is_signed f p)

  abbrev pub range_share : ℕ → RangeTerm → Share → ℕ → Places
  range_share p (one e) share g = record { places = g; value = λ t. index_read a [] e }
  range_share p (span low high) share g = span_share share g (low_bound p low) (values_between (low_bound p low) (high_bound p high))

  abbrev pub share_of : ℕ → DistTerm → Places
  share_of p d = range_share p d.range (kind_of d.weight) (weight_in a d.weight)

  abbrev pub shares_of : ℕ → List DistTerm → List Places
  shares_of p ds = map (share_of p) ds

module _ (f : FrameTerm) (sizes : List ℕ) where
  -- some range mentions a property that is random in this call
  abbrev pub ranges_vary : List DistTerm → Bool
  ranges_vary ds = list_any (λ (d : DistTerm). list_any (λ r. is_random f (property_read r)) (range_reads (shape_at f sizes) [] d.range)) ds

  -- ---- preferred numbers

  -- by weight where just one distribution is there, its ranges stand still, and its places can be counted in a word
  abbrev pub from_dists : ℕ → List (List DistTerm) → ℕ → ℕ
  from_dists p [] word = from_domain f p (members_of f p) word
  from_dists p (ds ∷ []) word =
      if not (ranges_vary ds) && has_places (places_of (shares_of f (state_at f sizes) p ds)) then from_shares f p (shares_of f (state_at f sizes) p ds) word else from_domain f p (members_of f p) word
  from_dists p (ds ∷ es ∷ more) word = from_domain f p (members_of f p) word

  abbrev pub preferred_number : ℕ → Slot → ℕ → ℕ
  preferred_number cap (Scalar p) word = from_dists p (dists_on p f.items) word
  preferred_number cap (Element p i) word = from_domain f p (members_of f p) word
  preferred_number cap (Size p) word = word % (cap + 1)

-- ---- the preferred assignment

abbrev pub number_in : List (Slot × ℕ) → ℕ → ℕ → ℕ → ℕ
number_in [] p i other = other
number_in (x ∷ xs) p i other = if is_at p i x.0 then x.1 else number_in xs p i other

abbrev pub size_in : List (Slot × ℕ) → ℕ → ℕ → ℕ
size_in [] p other = other
size_in (x ∷ xs) p other = if is_size_of p x.0 then x.1 else size_in xs p other

-- these numbers at these slots, and else what is there
abbrev pub reading_with : Reading → List (Slot × ℕ) → Reading
reading_with a xs = record { element = λ p i. number_in xs p i (a.element p i); size = λ p. size_in xs p (a.size p); script = λ v. a.script v }

-- `words` are those behind the words of the cyclic properties, which keep their numbers
abbrev pub preferred_of : FrameTerm → Part → List ℕ → ℕ → (ℕ → ℕ) → Reading
preferred_of f part sizes cap words = reading_with (state_at f sizes) (map (λ x. (x.0, preferred_number f sizes cap x.0 (words x.1))) (draws_of f part sizes))
