-- A sample counts only at counters of the parts
use Rattle.std.proofs.Common.{◌≡◌, ℕ, zero, suc, ◌+◌, ◌-◌, ◌^◌, ◌<◌, ◌≤◌, ◌==◌, Bool, true, false, List, [], ◌∷◌, ◌++◌, slice_index_or, refl, sym, ap, subst, ◌∙◌, arith, if◌then◌else◌}
use Rattle.std.specs.List.{All, sum_by}
use Rattle.svr_cover.specs.declared.point.Point.{Point}
use Rattle.svr_cover.specs.declared.group.Cross.{Cross}
use Rattle.svr_cover.specs.declared.group.Group.{Group}
use Rattle.svr_cover.specs.Counters.{number_of}
use Rattle.svr_cover.specs.Points.{hits_of}
use Rattle.svr_cover.specs.Tuples.{plus, tuple_at, tuples_hit}
use Rattle.svr_cover_laws.specs.Parts.{one_of, tuples_of, of_point, of_cross, owners_in, IsPointWithin, IsCrossWithin, IsGroupWithin}
use Rattle.svr_cover_laws.specs.Counted.{IsStored}
use Rattle.svr_cover_laws.proofs.Hits.{times, upto, point_hits, points_hits, cross_hits, crosses_hits, group_hits, taken_hits}
use Rattle.svr_cover_laws.proofs.Standing.{AreBetween, times-append, not-same, between-shift, between-from, upto-between}
use Rattle.svr_cover_laws.proofs.Owners.{Keeps, none_outside, none_there, one_there}
use Rattle.svr_cover_laws.proofs.Ways.{AllHit, number_in, number_below, tuple_is, are_hit, plus-is}

module _ (counters : ℕ) (few : counters < 2 ^ 64) (values : List (List ℕ)) (stored : IsStored values) where
  -- ---- points

  point-between : (p : Point) → IsPointWithin counters p → AreBetween p.first (p.first + p.bins) (point_hits values p)
  point-between p w = between-shift p.first p.bins (hits_of values p) (between-from p.bins (hits_of values p) (w.bins (number_of values p.prop) (stored p.prop)))

  point-keeps : (i : ℕ) (p : Point) → IsPointWithin counters p → Keeps i (of_point i) (point_hits values) p
  point-keeps i p w e = none_outside p.first p.bins i (point_hits values p) (point-between p w) e

  pub points_keep : (i : ℕ) (ps : List Point) → All (IsPointWithin counters) ps → All (Keeps i (of_point i) (point_hits values)) ps
  points_keep i ps h k d l = point-keeps i (slice_index_or ps k d) (h k d l)

  -- ---- crosses

  module _ (points : List Point) (within : All (IsPointWithin counters) points) where
    -- the counter of a tuple
    pub counter_is : (c : Cross) → IsCrossWithin counters points c → AllHit points values c.points → (n : ℕ) → plus (tuple_at points values c.points n) c.first ≡ number_in points values c.points n + c.first
    counter_is c w h n =
        let a : tuple_at points values c.points n ≡ number_in points values c.points n = tuple_is points values counters within stored c.points n (omega (arith, w, few)) h in
        let b : number_in points values c.points n < tuples_of points c.points = number_below points values counters within stored c.points n h in
        ap (λ z. plus z c.first) a ∙ plus-is (number_in points values c.points n) c.first (omega (arith, b, w, few))

    cross-between : (c : Cross) → IsCrossWithin counters points c → AreBetween c.first (c.first + tuples_of points c.points) (cross_hits points values c)
    cross-between c w = go (tuples_hit points values 1 c.points) refl
      where
        go : (n : ℕ) → tuples_hit points values 1 c.points ≡ n → AreBetween c.first (c.first + tuples_of points c.points) (upto (λ k. plus (tuple_at points values c.points k) c.first) n)
        go zero e = tt
        go (suc n) e =
            let h : AllHit points values c.points = are_hit points values 1 c.points (omega (arith, e)) in
            upto-between (λ k. plus (tuple_at points values c.points k) c.first) c.first (c.first + tuples_of points c.points) (suc n) (λ k. let a = counter_is c w h k in omega (arith, a))
            (λ k. let a = counter_is c w h k in let b = number_below points values counters within stored c.points k h in omega (arith, a, b))

    cross-keeps : (i : ℕ) (c : Cross) → IsCrossWithin counters points c → Keeps i (of_cross i points) (cross_hits points values) c
    cross-keeps i c w e = none_outside c.first (tuples_of points c.points) i (cross_hits points values c) (cross-between c w) e

    pub crosses_keep : (i : ℕ) (cs : List Cross) → All (IsCrossWithin counters points) cs → All (Keeps i (of_cross i points) (cross_hits points values)) cs
    crosses_keep i cs h k d l = cross-keeps i (slice_index_or cs k d) (h k d l)

  -- ---- groups

  -- a counter that is not that of the group's samples
  pub others : (i : ℕ) (g : Group) → one_of g.samples 1 i ≡ 0 → times i (group_hits values g) ≡ times i (points_hits values g.points) + times i (crosses_hits g.points values g.crosses)
  others i g e =
      not-same g.samples i (λ q. let o : one_of g.samples 1 i ≡ 1 = one_there g.samples 1 i (omega (arith, q)) (omega (arith, q)) in absurd (omega (arith, o, e)))
      (points_hits values g.points ++ crosses_hits g.points values g.crosses)
      ∙ times-append i (points_hits values g.points) (crosses_hits g.points values g.crosses)

  pub no_points : (i : ℕ) (g : Group) → IsGroupWithin counters g → sum_by (of_point i) g.points ≡ 0 → times i (points_hits values g.points) ≡ 0
  no_points i g w e = none_there i (of_point i) (point_hits values) g.points (points_keep i g.points w.points) e

  pub no_crosses : (i : ℕ) (g : Group) → IsGroupWithin counters g → sum_by (of_cross i g.points) g.crosses ≡ 0 → times i (crosses_hits g.points values g.crosses) ≡ 0
  no_crosses i g w e = none_there i (of_cross i g.points) (cross_hits g.points values) g.crosses (crosses_keep g.points w.points i g.crosses w.crosses) e

  group-keeps : (i class : ℕ) (g : Group) → IsGroupWithin counters g → Keeps i (owners_in i) (taken_hits class values) g
  group-keeps i class g w e = go (g.class == class)
    where
      parts : one_of g.samples 1 i + sum_by (of_point i) g.points + sum_by (of_cross i g.points) g.crosses ≡ 0
      parts = e

      go : (b : Bool) → times i (if b then group_hits values g else []) ≡ 0
      go true =
          let a : times i (points_hits values g.points) ≡ 0 = no_points i g w (omega (arith, parts)) in
          let b : times i (crosses_hits g.points values g.crosses) ≡ 0 = no_crosses i g w (omega (arith, parts)) in
          others i g (omega (arith, parts)) ∙ (let c : times i (points_hits values g.points) + times i (crosses_hits g.points values g.crosses) ≡ 0 = omega (arith, a, b) in c)
      go false = refl

  pub groups_keep : (i class : ℕ) (gs : List Group) → All (IsGroupWithin counters) gs → All (Keeps i (owners_in i) (taken_hits class values)) gs
  groups_keep i class gs h k d l = group-keeps i class (slice_index_or gs k d) (h k d l)
