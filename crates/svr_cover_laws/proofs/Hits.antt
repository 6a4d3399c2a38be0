-- The counters that a sample counts one more at, in their order
use Rattle.std.specs.Prelude.{ℕ, zero, suc, ◌+◌, ◌==◌, List, [], ◌∷◌, ◌++◌, map, flat_map, if◌then◌else◌}
use Rattle.svr_cover.specs.declared.point.Point.{Point}
use Rattle.svr_cover.specs.declared.group.Cross.{Cross}
use Rattle.svr_cover.specs.declared.group.Group.{Group}
use Rattle.svr_cover.specs.Counters.{counted}
use Rattle.svr_cover.specs.Points.{hits_of}
use Rattle.svr_cover.specs.Tuples.{plus, tuple_at, tuples_hit}

-- how often a number stands in a list
abbrev pub times : ℕ → List ℕ → ℕ
times i [] = 0
times i (x ∷ xs) = if x == i then suc (times i xs) else times i xs

-- the values of a function at the numbers below one
abbrev pub upto : (ℕ → ℕ) → ℕ → List ℕ
upto f zero = []
upto f (suc n) = upto f n ++ f n ∷ []

abbrev pub point_hits : List (List ℕ) → Point → List ℕ
point_hits values p = map (λ b. p.first + b) (hits_of values p)

abbrev pub points_hits : List (List ℕ) → List Point → List ℕ
points_hits values ps = flat_map (point_hits values) ps

-- of the tuples whose bins have the values
abbrev pub cross_hits : List Point → List (List ℕ) → Cross → List ℕ
cross_hits points values c = upto (λ n. plus (tuple_at points values c.points n) c.first) (tuples_hit points values 1 c.points)

abbrev pub crosses_hits : List Point → List (List ℕ) → List Cross → List ℕ
crosses_hits points values cs = flat_map (cross_hits points values) cs

abbrev pub group_hits : List (List ℕ) → Group → List ℕ
group_hits values g = g.samples ∷ (points_hits values g.points ++ crosses_hits g.points values g.crosses)

-- a group takes the samples of exactly its class
abbrev pub taken_hits : ℕ → List (List ℕ) → Group → List ℕ
taken_hits class values g = if g.class == class then group_hits values g else []

abbrev pub hits : ℕ → List (List ℕ) → List Group → List ℕ
hits class values gs = flat_map (taken_hits class values) gs

-- one more at each counter
abbrev pub count_all : List ℕ → List ℕ → List ℕ
count_all counts [] = counts
count_all counts (x ∷ xs) = count_all (counted counts x) xs
