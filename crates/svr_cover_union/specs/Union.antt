-- Steps of ranges, and two lists of steps in one (IEEE 1800-2017, 19.5)
use Rattle.std.specs.Prelude.{ℕ, suc, ◌+◌, Bool, true, false, ◌&&◌, ◌==◌, nat_le, List, [], ◌∷◌, ◌++◌, Option, None, Some, option_map, slice_get, if◌then◌else◌}
use Rattle.std.specs.List.{list_any}
use Rattle.svr_cover_steps.specs.declared.steps.Step.{Step}
use Rattle.svr_cover_steps.specs.Steps.{bins_at, start_of}
use Rattle.svr_cover_union.specs.declared.ranges.Range.{Range}
use Rattle.svr_cover_union.specs.declared.union.Way.{Way}

-- ---- what is made

abbrev pub range_has : ℕ → Range → Bool
range_has v r = nat_le r.low v && nat_le v r.high

-- the bin of this number, where one of its ranges has the value
abbrev pub hits_of : ℕ → List Range → ℕ → List ℕ
hits_of bin ranges v = if list_any (range_has v) ranges then bin ∷ [] else []

-- of bins that are numbered from n on, those that have the value
abbrev pub hits_from : ℕ → List (List Range) → ℕ → List ℕ
hits_from n [] v = []
hits_from n (ranges ∷ more) v = hits_of n ranges v ++ hits_from (suc n) more v

-- ---- two lists of steps in one

-- the bins of one value in two lists: of two ranges of one bin those of either, else those of both
abbrev pub joined : Bool → List ℕ → List ℕ → List ℕ
joined true [] d = d
joined true (b ∷ bs) d = b ∷ bs
joined false c d = c ++ d

abbrev pub start_at : List Step → ℕ → Option ℕ
start_at steps place = option_map start_of (slice_get steps place)

abbrev pub lower : ℕ → ℕ → Option ℕ
lower a b = if nat_le a b then Some a else Some b

abbrev pub earlier : Option ℕ → Option ℕ → Option ℕ
earlier None b = b
earlier (Some a) None = Some a
earlier (Some a) (Some b) = lower a b

abbrev pub begins : Option Step → ℕ → Bool
begins None start = false
begins (Some s) start = s.from == start

abbrev pub begins_at : List Step → ℕ → ℕ → Bool
begins_at steps place start = begins (slice_get steps place) start

abbrev pub behind : List Step → ℕ → ℕ → ℕ
behind steps place start = if begins_at steps place start then place + 1 else place

abbrev pub step_at : Bool → List Step → List Step → ℕ → Step
step_at same first second start = record { from = start; bins = joined same (bins_at first start) (bins_at second start) }

-- the lower of the next starts of two lists
abbrev pub next_start : List Step → List Step → ℕ → ℕ → Option ℕ
next_start first second i j = earlier (start_at first i) (start_at second j)

-- one start further
abbrev pub further : Bool → List Step → List Step → Way → ℕ → Way
further same first second w start = record { done = w.done ++ step_at same first second start ∷ []; i = behind first w.i start; j = behind second w.j start }

-- ---- the steps of one range

abbrev pub opened : ℕ → ℕ → List Step
opened low bin = record { from = low; bins = bin ∷ [] } ∷ []

abbrev pub closed : ℕ → ℕ → ℕ → List Step
closed low end bin = record { from = low; bins = bin ∷ [] } ∷ (record { from = end; bins = [] } ∷ [])
