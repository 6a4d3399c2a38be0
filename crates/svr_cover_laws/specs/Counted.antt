-- Counters behind samples as numbers of samples (IEEE 1800-2017, 19.5, 19.6 and 19.8). A sample is whatever has a class and the values of its properties.
use Rattle.std.specs.Prelude.{◌≡◌, ℕ, ◌+◌, ◌/◌, ◌%◌, ◌^◌, ◌<◌, Bool, true, ◌&&◌, ◌==◌, List, [], ◌∷◌, length, Option, None, Some, slice_get, slice_index, slice_index_or}
use Rattle.std.specs.List.{All, count_by, fold, list_any}
use Rattle.svr_cover_steps.specs.Steps.{bins_at}
use Rattle.svr_cover_union.specs.declared.ranges.Range.{Range}
use Rattle.svr_cover_union.specs.Union.{range_has, hits_from}
use Rattle.svr_cover.specs.declared.point.Point.{Point}
use Rattle.svr_cover.specs.declared.group.Cross.{Cross}
use Rattle.svr_cover.specs.declared.group.Group.{Group}
use Rattle.svr_cover.specs.Counters.{number_of}
use Rattle.svr_cover.specs.Points.{bins_in}
use Rattle.svr_cover.specs.Cover.{CoverTerm, cover_term, cover_step, unsampled}
use Rattle.svr_cover_laws.specs.Parts.{tuples_of}

-- ---- samples

-- each number of a sample is one of 64 bits
abbrev pub IsStored : List (List ℕ) → Type 0
IsStored values = (prop : ℕ) → number_of values prop < 2 ^ 64

-- what the counters tell behind samples
abbrev pub cover_behind : {S : Type 0} → (S → ℕ) → (S → List (List ℕ)) → CoverTerm → List S → CoverTerm
cover_behind class values c ss = fold (λ t s. cover_step t (class s) (values s)) c ss

-- so many counters behind samples, which all begin at 0
abbrev pub counts_behind : {S : Type 0} → (S → ℕ) → (S → List (List ℕ)) → List Group → ℕ → List S → List ℕ
counts_behind class values groups counters ss = (cover_behind class values (cover_term (unsampled groups counters)) ss).counts

-- ---- bins

-- the bin of this number has the value in one of its ranges
abbrev pub has_at : List (List Range) → ℕ → ℕ → Bool
has_at bins k v = list_any (range_has v) (slice_index_or bins k [])

-- these are the bins of the point, each with its ranges of stored values
pub record HasBins (p : Point) (bins : List (List Range)) : Type 0 where
  pub many : p.bins ≡ length bins
  pub hits : (v : ℕ) → v < 2 ^ 64 → bins_at p.steps v ≡ hits_from 0 bins v

-- those of each of the points
abbrev pub HaveBins : List Point → List (List (List Range)) → Type 0
HaveBins points bins = (j : ℕ) (p : Point) → slice_get points j ≡ Some p → HasBins p (slice_index_or bins j [])

-- ---- tuples

abbrev pub prop_of : Option Point → ℕ
prop_of None = 0
prop_of (Some p) = p.prop

-- the value of the point at a place
abbrev pub value_in : List Point → List (List ℕ) → ℕ → ℕ
value_in points values at = number_of values (prop_of (slice_get points at))

-- All bins of the tuple of a number have the values. The points stand from the last to the first: the number by the bins of the last one has its bin as the remainder, and as the quotient the tuple of those before.
abbrev pub tuple_has : List Point → List (List (List Range)) → List (List ℕ) → List ℕ → ℕ → Bool
tuple_has points bins values [] t = true
tuple_has points bins values (p ∷ ps) t = has_at (slice_index_or bins p []) (t % bins_in points p) (value_in points values p) && tuple_has points bins values ps (t / bins_in points p)

-- ---- counters are numbers of samples

-- that of a group is the number of samples of exactly its class
abbrev pub GroupsAreCounted : {S : Type 0} → (S → ℕ) → List Group → List S → List ℕ → Type 0
GroupsAreCounted class groups ss counts = (i : ℕ) (g : Group) → slice_get groups i ≡ Some g → slice_index counts g.samples ≡ count_by (λ s. g.class == class s) ss

-- that of a bin is the number of those whose value of its point is in the bin
abbrev pub BinsAreCounted : {S : Type 0} → (S → ℕ) → (S → List (List ℕ)) → List Group → List S → List ℕ → Type 0
BinsAreCounted class values groups ss counts =
    (i : ℕ) (g : Group) (j : ℕ) (p : Point) (bins : List (List Range)) (k : ℕ)
    → slice_get groups i ≡ Some g → slice_get g.points j ≡ Some p → HasBins p bins → k < p.bins
    → slice_index counts (p.first + k) ≡ count_by (λ s. g.class == class s && has_at bins k (number_of (values s) p.prop)) ss

-- that of a tuple is the number of those whose values are in all its bins
abbrev pub TuplesAreCounted : {S : Type 0} → (S → ℕ) → (S → List (List ℕ)) → List Group → List S → List ℕ → Type 0
TuplesAreCounted class values groups ss counts =
    (i : ℕ) (g : Group) (j : ℕ) (c : Cross) (bins : List (List (List Range))) (t : ℕ)
    → slice_get groups i ≡ Some g → slice_get g.crosses j ≡ Some c → HaveBins g.points bins → t < tuples_of g.points c.points
    → slice_index counts (c.first + t) ≡ count_by (λ s. g.class == class s && tuple_has g.points bins (values s) c.points t) ss
