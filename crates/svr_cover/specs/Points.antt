-- The bins of points that have the values of a sample, and their counters (IEEE 1800-2017, 19.5)
use Rattle.std.specs.Prelude.{ℕ, List, [], ◌∷◌, Option, None, Some, slice_get}
use Rattle.svr_cover_steps.specs.Steps.{bins_at}
use Rattle.svr_cover.specs.declared.point.Point.{Point}
use Rattle.svr_cover.specs.Counters.{number_of, counted_from}

-- the bins that have the point's value
abbrev pub hits_of : List (List ℕ) → Point → List ℕ
hits_of values p = bins_at p.steps (number_of values p.prop)

abbrev pub hits_at : List (List ℕ) → Option Point → List ℕ
hits_at values None = []
hits_at values (Some p) = hits_of values p

-- those of the point at a place
abbrev pub hits_in : List Point → List (List ℕ) → ℕ → List ℕ
hits_in points values at = hits_at values (slice_get points at)

abbrev pub bins_of : Option Point → ℕ
bins_of None = 0
bins_of (Some p) = p.bins

-- how many bins the point at a place has
abbrev pub bins_in : List Point → ℕ → ℕ
bins_in points at = bins_of (slice_get points at)

-- one more at each bin of each point that has its value
abbrev pub counted_points : List (List ℕ) → List ℕ → List Point → List ℕ
counted_points values counts [] = counts
counted_points values counts (p ∷ ps) = counted_points values (counted_from p.first counts (hits_of values p)) ps
