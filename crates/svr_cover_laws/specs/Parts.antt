-- Which counters the parts of groups have: each part those from its first one on (IEEE 1800-2017, 19.3, 19.5 and 19.6)
use Rattle.std.specs.Prelude.{ℕ, ◌+◌, ◌*◌, ◌^◌, ◌<◌, ◌≤◌, ◌&&◌, nat_le, nat_lt, List, [], ◌∷◌, if◌then◌else◌}
use Rattle.std.specs.List.{All, sum_by}
use Rattle.svr_cover_steps.specs.Steps.{bins_at}
use Rattle.svr_cover.specs.declared.point.Point.{Point}
use Rattle.svr_cover.specs.declared.group.Cross.{Cross}
use Rattle.svr_cover.specs.declared.group.Group.{Group}
use Rattle.svr_cover.specs.Points.{bins_in}

-- 1 where the counter is one of so many from the first on, else 0
abbrev pub one_of : ℕ → ℕ → ℕ → ℕ
one_of first many i = if nat_le first i && nat_lt i (first + many) then 1 else 0

-- how many tuples of bins there are of the points at these places
abbrev pub tuples_of : List Point → List ℕ → ℕ
tuples_of points [] = 1
tuples_of points (p ∷ ps) = bins_in points p * tuples_of points ps

abbrev pub of_point : ℕ → Point → ℕ
of_point i p = one_of p.first p.bins i

abbrev pub of_cross : ℕ → List Point → Cross → ℕ
of_cross i points c = one_of c.first (tuples_of points c.points) i

-- how many parts of a group have the counter: its samples, its points and its crosses
abbrev pub owners_in : ℕ → Group → ℕ
owners_in i g = one_of g.samples 1 i + sum_by (of_point i) g.points + sum_by (of_cross i g.points) g.crosses

abbrev pub owners : ℕ → List Group → ℕ
owners i groups = sum_by (owners_in i) groups

-- the counters of a point are among so many, and the bins of a stored value are bins of the point
pub record IsPointWithin (counters : ℕ) (p : Point) : Type 0 where
  pub inside : p.first + p.bins ≤ counters
  pub bins : (v : ℕ) → v < 2 ^ 64 → All (λ b. b < p.bins) (bins_at p.steps v)

abbrev pub IsCrossWithin : ℕ → List Point → Cross → Type 0
IsCrossWithin counters points c = c.first + tuples_of points c.points ≤ counters

pub record IsGroupWithin (counters : ℕ) (g : Group) : Type 0 where
  pub samples : g.samples < counters
  pub points : All (IsPointWithin counters) g.points
  pub crosses : All (IsCrossWithin counters g.points) g.crosses

-- all parts have their counters among so many, and no counter is that of two parts
pub record AreApart (groups : List Group) (counters : ℕ) : Type 0 where
  pub few : counters < 2 ^ 64
  pub within : All (IsGroupWithin counters) groups
  pub apart : (i : ℕ) → owners i groups ≤ 1
