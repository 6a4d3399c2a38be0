-- Steps of loops over numbers
use Rattle.std.proofs.Common.{◌≡◌, ℕ, ◌+◌, List, ap, add-one}
use Rattle.svr_cover.specs.declared.point.Point.{Point}
use Rattle.svr_cover.specs.Counters.{counted}
use Rattle.svr_cover.specs.Tuples.{plus, tuple_at, counted_tuples}

-- one tuple more is counted
pub one_tuple : (points : List Point) (values : List (List ℕ)) (first : ℕ) (counts cross : List ℕ) (n : ℕ)
    → counted_tuples points values first counts cross (n + 1) ≡ counted (counted_tuples points values first counts cross n) (plus (tuple_at points values cross n) first)
one_tuple points values first counts cross n = ap (counted_tuples points values first counts cross) (add-one n)
