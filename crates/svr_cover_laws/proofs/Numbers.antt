-- The counters of groups, of bins and of tuples behind samples are numbers of samples
use Rattle.std.proofs.Common.{◌≡◌, ℕ, zero, suc, ◌+◌, ◌-◌, ◌^◌, ◌<◌, ◌≤◌, ◌==◌, ◌&&◌, cond, Bool, true, false, List, [], ◌∷◌, ◌++◌, length, replicate, Some, slice_get, slice_index_or, refl, sym, ap, subst, ◌∙◌, arith, if◌then◌else◌}
use Rattle.std.specs.Prelude.{slice_index}
use Rattle.std.specs.List.{All, sum_by, count_by}
use Rattle.std.proofs.lemmas.Bool.{eq-eqb}
use Rattle.std.proofs.lemmas.List.{length-replicate, get_or-replicate}
use Rattle.std.proofs.lemmas.Option.{slice_get_within, get_or_from_slice_get}
use Rattle.std.proofs.lemmas.List.Elements.{All-head, All-tail}
use Rattle.std.proofs.lemmas.List.Sums.{sum_by-cons, count_by-le-length}
use Rattle.svr_cover_union.specs.declared.ranges.Range.{Range}
use Rattle.svr_cover.specs.declared.point.Point.{Point}
use Rattle.svr_cover.specs.declared.group.Cross.{Cross}
use Rattle.svr_cover.specs.declared.group.Group.{Group}
use Rattle.svr_cover.specs.Counters.{number_of}
use Rattle.svr_cover.specs.Cover.{cover_term, unsampled}
use Rattle.svr_cover_laws.specs.Parts.{one_of, tuples_of, of_point, of_cross, owners_in, owners, IsGroupWithin, AreApart}
use Rattle.svr_cover_laws.specs.Counted.{IsStored, counts_behind, has_at, HasBins, HaveBins, tuple_has, GroupsAreCounted, BinsAreCounted, TuplesAreCounted}
use Rattle.svr_cover_laws.proofs.Hits.{times, point_hits, points_hits, cross_hits, crosses_hits, group_hits, taken_hits, hits}
use Rattle.svr_cover_laws.proofs.Gathering.{often, behind-at}
use Rattle.svr_cover_laws.proofs.Standing.{once, times-append}
use Rattle.svr_cover_laws.proofs.Owners.{one_there, weight_in, that_one}
use Rattle.svr_cover_laws.proofs.Within.{points_keep, crosses_keep, groups_keep, others, no_points, no_crosses}
use Rattle.svr_cover_laws.proofs.Once.{bin_once, tuple_once}

sum-same : {S : Type 0} (f g : S → ℕ) (ss : List S) → All (λ s. f s ≡ g s) ss → sum_by f ss ≡ sum_by g ss
sum-same f g [] h = refl
sum-same f g (s ∷ ss) h =
    let a : f s ≡ g s = All-head (λ x. f x ≡ g x) s ss h in
    let b : sum_by f ss ≡ sum_by g ss = sum-same f g ss (All-tail (λ x. f x ≡ g x) s ss h) in
    sum_by-cons f s ss ∙ (let c : f s + sum_by f ss ≡ g s + sum_by g ss = omega (arith, a, b) in c) ∙ sym (sum_by-cons g s ss)

-- a sample counts at a counter of a group where it is of the class of the group
of-class : (i class : ℕ) (values : List (List ℕ)) (g : Group) (has : Bool) → times i (group_hits values g) ≡ once has → times i (taken_hits class values g) ≡ once (g.class == class && has)
of-class i class values g has h = go (g.class == class)
  where
    go : (b : Bool) → times i (if b then group_hits values g else []) ≡ once (b && has)
    go true = h
    go false = refl

of-class-alone : (i class : ℕ) (values : List (List ℕ)) (g : Group) → times i (group_hits values g) ≡ 1 → times i (taken_hits class values g) ≡ once (g.class == class)
of-class-alone i class values g h = go (g.class == class)
  where
    go : (b : Bool) → times i (if b then group_hits values g else []) ≡ once b
    go true = h
    go false = refl

-- ---- one group

module _ (groups : List Group) (counters : ℕ) (laid : AreApart groups counters) (at : ℕ) (g : Group) (there : slice_get groups at ≡ Some g) where
  within-group : IsGroupWithin counters g
  within-group = subst (IsGroupWithin counters) (get_or_from_slice_get groups at g g there) (laid.within at g (slice_get_within groups at g there))

  owners-sum : (i : ℕ) → one_of g.samples 1 i + sum_by (of_point i) g.points + sum_by (of_cross i g.points) g.crosses ≤ 1
  owners-sum i =
      let a : owners_in i g ≤ owners i groups = weight_in i (owners_in i) (λ _. []) groups at g there in
      let b : owners i groups ≤ 1 = laid.apart i in
      let c : owners_in i g ≤ 1 = omega (arith, a, b) in
      c

  module _ (values : List (List ℕ)) (stored : IsStored values) where
    -- only this group counts at a counter of its own
    of-group : (i class : ℕ) → 1 ≤ one_of g.samples 1 i + sum_by (of_point i) g.points + sum_by (of_cross i g.points) g.crosses → times i (hits class values groups) ≡ times i (taken_hits class values g)
    of-group i class l = that_one i (owners_in i) (taken_hits class values) groups at g (groups_keep counters laid.few values stored i class groups laid.within) (laid.apart i) there l

    -- ---- the samples of the group

    samples-once : times g.samples (group_hits values g) ≡ 1
    samples-once =
        let o : one_of g.samples 1 g.samples ≡ 1 = one_there g.samples 1 g.samples (omega arith) (omega arith) in
        let s = owners-sum g.samples in
        let a : times g.samples (points_hits values g.points) ≡ 0 = no_points counters laid.few values stored g.samples g within-group (omega (arith, o, s)) in
        let b : times g.samples (crosses_hits g.points values g.crosses) ≡ 0 = no_crosses counters laid.few values stored g.samples g within-group (omega (arith, o, s)) in
        ap (λ b. if b then suc (times g.samples (points_hits values g.points ++ crosses_hits g.points values g.crosses)) else times g.samples (points_hits values g.points ++ crosses_hits g.points values g.crosses)) (eq-eqb g.samples g.samples refl)
        ∙ ap suc (times-append g.samples (points_hits values g.points) (crosses_hits g.points values g.crosses))
        ∙ (let c : suc (times g.samples (points_hits values g.points) + times g.samples (crosses_hits g.points values g.crosses)) ≡ 1 = omega (arith, a, b) in c)

    pub group_often : (class : ℕ) → times g.samples (hits class values groups) ≡ once (g.class == class)
    group_often class =
        let o : one_of g.samples 1 g.samples ≡ 1 = one_there g.samples 1 g.samples (omega arith) (omega arith) in
        of-group g.samples class (omega (arith, o)) ∙ of-class-alone g.samples class values g samples-once

    -- ---- a bin

    module _ (j : ℕ) (p : Point) (bins : List (List Range)) (k : ℕ) (has : slice_get g.points j ≡ Some p) (are : HasBins p bins) (l : k < p.bins) where
      point-owns : 1 ≤ sum_by (of_point (p.first + k)) g.points
      point-owns =
          let o : one_of p.first p.bins (p.first + k) ≡ 1 = one_there p.first p.bins (p.first + k) (omega arith) (omega (arith, l)) in
          let w : of_point (p.first + k) p ≤ sum_by (of_point (p.first + k)) g.points = weight_in (p.first + k) (of_point (p.first + k)) (point_hits values) g.points j p has in
          omega (arith, o, w)

      bin-group : times (p.first + k) (group_hits values g) ≡ once (has_at bins k (number_of values p.prop))
      bin-group =
          let s = owners-sum (p.first + k) in
          let o = point-owns in
          let b : times (p.first + k) (crosses_hits g.points values g.crosses) ≡ 0 = no_crosses counters laid.few values stored (p.first + k) g within-group (omega (arith, o, s)) in
          let a : times (p.first + k) (points_hits values g.points) ≡ times (p.first + k) (point_hits values p) =
          that_one (p.first + k) (of_point (p.first + k)) (point_hits values) g.points j p (points_keep counters laid.few values stored (p.first + k) g.points within-group.points) (omega (arith, s)) has
          (let q : 1 ≤ one_of p.first p.bins (p.first + k) = (let r : one_of p.first p.bins (p.first + k) ≡ 1 = one_there p.first p.bins (p.first + k) (omega arith) (omega (arith, l)) in omega (arith, r)) in q)
          in
          others counters laid.few values stored (p.first + k) g (omega (arith, o, s))
          ∙ (let c : times (p.first + k) (points_hits values g.points) + times (p.first + k) (crosses_hits g.points values g.crosses) ≡ times (p.first + k) (point_hits values p) = omega (arith, a, b) in c)
          ∙ bin_once values stored p bins are k

      pub bin_often : (class : ℕ) → times (p.first + k) (hits class values groups) ≡ once (g.class == class && has_at bins k (number_of values p.prop))
      bin_often class =
          let o = point-owns in
          of-group (p.first + k) class (omega (arith, o)) ∙ of-class (p.first + k) class values g (has_at bins k (number_of values p.prop)) bin-group

    -- ---- a tuple

    module _ (j : ℕ) (c : Cross) (bins : List (List (List Range))) (t : ℕ) (has : slice_get g.crosses j ≡ Some c) (are : HaveBins g.points bins) (l : t < tuples_of g.points c.points) where
      one-cross : one_of c.first (tuples_of g.points c.points) (c.first + t) ≡ 1
      one-cross = one_there c.first (tuples_of g.points c.points) (c.first + t) (omega arith) (omega (arith, l))

      cross-owns : 1 ≤ sum_by (of_cross (c.first + t) g.points) g.crosses
      cross-owns =
          let o = one-cross in
          let w : of_cross (c.first + t) g.points c ≤ sum_by (of_cross (c.first + t) g.points) g.crosses = weight_in (c.first + t) (of_cross (c.first + t) g.points) (cross_hits g.points values) g.crosses j c has in
          omega (arith, o, w)

      tuple-group : times (c.first + t) (group_hits values g) ≡ once (tuple_has g.points bins values c.points t)
      tuple-group =
          let s = owners-sum (c.first + t) in
          let o = cross-owns in
          let q = one-cross in
          let b : times (c.first + t) (points_hits values g.points) ≡ 0 = no_points counters laid.few values stored (c.first + t) g within-group (omega (arith, o, s)) in
          let a : times (c.first + t) (crosses_hits g.points values g.crosses) ≡ times (c.first + t) (cross_hits g.points values c) =
          that_one (c.first + t) (of_cross (c.first + t) g.points) (cross_hits g.points values) g.crosses j c
          (crosses_keep counters laid.few values stored g.points within-group.points (c.first + t) g.crosses within-group.crosses) (omega (arith, s)) has (omega (arith, q))
          in
          others counters laid.few values stored (c.first + t) g (omega (arith, o, s))
          ∙ (let d : times (c.first + t) (points_hits values g.points) + times (c.first + t) (crosses_hits g.points values g.crosses) ≡ times (c.first + t) (cross_hits g.points values c) = omega (arith, a, b) in d)
          ∙ tuple_once values stored counters laid.few g.points within-group.points bins are c
          (subst (λ (x : Cross). x.first + tuples_of g.points x.points ≤ counters) (get_or_from_slice_get g.crosses j c c has) (within-group.crosses j c (slice_get_within g.crosses j c has))) t l

      pub tuple_often : (class : ℕ) → times (c.first + t) (hits class values groups) ≡ once (g.class == class && tuple_has g.points bins values c.points t)
      tuple_often class =
          let o = cross-owns in
          of-group (c.first + t) class (omega (arith, o)) ∙ of-class (c.first + t) class values g (tuple_has g.points bins values c.points t) tuple-group

-- ---- all samples

module _ {S : Type 0} (class : S → ℕ) (values : S → List (List ℕ)) (groups : List Group) (counters : ℕ) (ss : List S) (laid : AreApart groups counters) (stored : All (λ s. IsStored (values s)) ss) (few : length ss < 2 ^ 64) where
  counted-at : (i : ℕ) (test : S → Bool) → i < counters → ((s : S) → IsStored (values s) → often class values i groups s ≡ once (test s)) → slice_index (counts_behind class values groups counters ss) i ≡ count_by test ss
  counted-at i test l h =
      let none : ℕ = 0 in
      let n : slice_index (replicate counters none) i ≡ 0 = get_or-replicate counters i none none l in
      let m : length (replicate counters none) ≡ counters = length-replicate counters none in
      let e : sum_by (often class values i groups) ss ≡ count_by test ss =
      sum-same (often class values i groups) (λ s. cond (test s) 1 0) ss (λ k d lt. h (slice_index_or ss k d) (stored k d lt))
      in
      let f : count_by test ss ≤ length ss = count_by-le-length test ss in
      behind-at class values (cover_term (unsampled groups counters)) ss i (omega (arith, m, l)) (omega (arith, n, e, f, few))
      ∙ (let r : slice_index (replicate counters none) i + sum_by (often class values i groups) ss ≡ count_by test ss = omega (arith, n, e) in r)

  pub groups_are : GroupsAreCounted class groups ss (counts_behind class values groups counters ss)
  groups_are i g there =
      counted-at g.samples (λ s. g.class == class s) (within-group groups counters laid i g there).samples (λ s st. group_often groups counters laid i g there (values s) st (class s))

  pub bins_are : BinsAreCounted class values groups ss (counts_behind class values groups counters ss)
  bins_are i g j p bins k there has are l =
      counted-at (p.first + k) (λ s. g.class == class s && has_at bins k (number_of (values s) p.prop)) inside (λ s st. bin_often groups counters laid i g there (values s) st j p bins k has are l (class s))
    where
      inside : p.first + k < counters
      inside =
          let w = within-group groups counters laid i g there in
          let q : p.first + p.bins ≤ counters = subst (λ (x : Point). x.first + x.bins ≤ counters) (get_or_from_slice_get g.points j p p has) (w.points j p (slice_get_within g.points j p has)).inside in
          omega (arith, q, l)

  pub tuples_are : TuplesAreCounted class values groups ss (counts_behind class values groups counters ss)
  tuples_are i g j c bins t there has are l =
      counted-at (c.first + t) (λ s. g.class == class s && tuple_has g.points bins (values s) c.points t) inside (λ s st. tuple_often groups counters laid i g there (values s) st j c bins t has are l (class s))
    where
      inside : c.first + t < counters
      inside =
          let w = within-group groups counters laid i g there in
          let q : c.first + tuples_of g.points c.points ≤ counters =
          subst (λ (x : Cross). x.first + tuples_of g.points x.points ≤ counters) (get_or_from_slice_get g.crosses j c c has) (w.crosses j c (slice_get_within g.crosses j c has))
          in
          omega (arith, q, l)
