-- What a sample counts (IEEE 1800-2017, 19.8)
use Rattle.std.specs.Prelude.{ℕ, ◌==◌, List, [], ◌∷◌, if◌then◌else◌}
use Rattle.svr_cover.specs.declared.point.Point.{Point}
use Rattle.svr_cover.specs.declared.group.Cross.{Cross}
use Rattle.svr_cover.specs.declared.group.Group.{Group}
use Rattle.svr_cover.specs.Counters.{counted}
use Rattle.svr_cover.specs.Points.{counted_points}
use Rattle.svr_cover.specs.Tuples.{counted_cross}

abbrev pub counted_crosses : List Point → List (List ℕ) → List ℕ → List Cross → List ℕ
counted_crosses points values counts [] = counts
counted_crosses points values counts (c ∷ cs) = counted_crosses points values (counted_cross points values c.first counts c.points) cs

-- the samples of the group, its points and its crosses
abbrev pub counted_group : List (List ℕ) → List ℕ → Group → List ℕ
counted_group values counts g = counted_crosses g.points values (counted_points values (counted counts g.samples) g.points) g.crosses

-- a group takes the samples of exactly its class
abbrev pub taken : ℕ → List (List ℕ) → List ℕ → Group → List ℕ
taken class values counts g = if g.class == class then counted_group values counts g else counts

abbrev pub sampled : ℕ → List (List ℕ) → List ℕ → List Group → List ℕ
sampled class values counts [] = counts
sampled class values counts (g ∷ gs) = sampled class values (taken class values counts g) gs
