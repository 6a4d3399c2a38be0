-- The groups that are made have their counters one behind the other
use Rattle.std.proofs.Common.{◌≡◌, ℕ, zero, suc, ◌+◌, ◌^◌, ◌<◌, ◌≤◌, List, [], ◌∷◌, ◌++◌, length, map, is_some, nat_lt, ⊎_elim, refl, sym, ap, subst, ◌∙◌, arith}
use Rattle.std.specs.Prelude.{slice_index}
use Rattle.std.specs.List.{All, sum_by}
use Rattle.std.proofs.lemmas.Bool.{cases_lt}
use Rattle.std.proofs.lemmas.List.Elements.{All-nil, All-cons, All-head, All-tail}
use Rattle.std.proofs.lemmas.List.Sums.{sum_by-cons}
use Rattle.svr_typed.specs.declared.class.TClass.{TClass}
use Rattle.svr_typed.specs.declared.class.FlatClass.{FlatClass}
use Rattle.svr_refusal.specs.declared.refusal.Refusal.TheVariants as refusal
use Rattle.svr_cover_text.specs.declared.text.GroupText.{GroupText}
use Rattle.svr_cover_union.specs.Union.{hits_from}
use Rattle.svr_cover.specs.declared.point.Point.{Point}
use Rattle.svr_cover.specs.declared.group.Group.{Group}
use Rattle.svr_cover.specs.Points.{bins_in}
use Rattle.svr_cover_checked.specs.Numbers.{Spelling, unless}
use Rattle.svr_cover_checked.specs.Places.{Finder, finder, second}
use Rattle.svr_cover_checked.specs.Design.{class_from}
use Rattle.svr_cover_checked.specs.Refusals.{group_of, group_name, parts_refusals, parts_total, group_refusals, groups_refusals, refusals}
use Rattle.svr_cover_checked.specs.declared.limits.TheConstants.{MOST_GROUPS}
use Rattle.svr_cover_made.specs.declared.plan.PointPlan.{PointPlan}
use Rattle.svr_cover_made.specs.declared.made.Made.{Made}
use Rattle.svr_cover_made.specs.Made.{IsPointOf, ArePointsOf, IsGroupOf, AreGroupsOf, IsMade}
use Rattle.svr_cover_made.specs.Plan.{all_parts, no_parts, group_plan, group_plans, end_of}
use Rattle.svr_cover_laws.specs.Parts.{one_of, of_point, of_cross, owners_in, owners, IsPointWithin, IsCrossWithin, IsGroupWithin, AreApart}
use Rattle.svr_cover_laws.proofs.Standing.{AreBetween, hits-between}
use Rattle.svr_cover_made_laws.proofs.Empty.{left_empty, right_empty}
use Rattle.svr_cover_made_laws.proofs.Ranked.{size_of_part, point_sizes, counts_are}
use Rattle.svr_cover_made_laws.proofs.Exact.{AreExact, are_exact}
use Rattle.svr_cover_made_laws.proofs.Walked.{one_in, one_low, one_high, one_none, one_joined, plan_size, of_plan, IsPlanWithin, sizes_are, IsBehind, walked, IsBelow, walked_below}

-- ---- points that are made of plans

bins-at-place : (xs : List PointPlan) (ys : List Point) → ArePointsOf xs ys → (k : ℕ) → bins_in ys k ≡ slice_index (map plan_size xs) k
bins-at-place [] [] a k = refl
bins-at-place [] (p ∷ ps) a k = absurd a
bins-at-place (x ∷ xs) [] a k = absurd a
bins-at-place (x ∷ xs) (p ∷ ps) a zero = a.0.bins
bins-at-place (x ∷ xs) (p ∷ ps) a (suc k) = bins-at-place xs ps a.1 k

points-owners : (k : ℕ) (xs : List PointPlan) (ys : List Point) → ArePointsOf xs ys → sum_by (of_point k) ys ≡ sum_by (of_plan k) xs
points-owners k [] [] a = refl
points-owners k [] (p ∷ ps) a = absurd a
points-owners k (x ∷ xs) [] a = absurd a
points-owners k (x ∷ xs) (p ∷ ps) a =
    let e : one_of p.first p.bins k ≡ one_of x.first (length x.bins) k = ap (λ z. one_of z p.bins k) a.0.first ∙ ap (λ z. one_of x.first z k) a.0.bins in
    let h : sum_by (of_point k) ps ≡ sum_by (of_plan k) xs = points-owners k xs ps a.1 in
    sum_by-cons (of_point k) p ps ∙ (let q : one_of p.first p.bins k + sum_by (of_point k) ps ≡ one_of x.first (length x.bins) k + sum_by (of_plan k) xs = omega (arith, e, h) in q)
    ∙ sym (sum_by-cons (of_plan k) x xs)

all-below : (low high : ℕ) (xs : List ℕ) → AreBetween low high xs → All (λ b. b < high) xs
all-below low high [] h = All-nil (λ b. b < high)
all-below low high (x ∷ xs) h = All-cons (λ b. b < high) x xs h.0.1 (all-below low high xs h.1)

point-within : (counters : ℕ) (x : PointPlan) (p : Point) → IsPointOf x p → IsPlanWithin counters x → IsPointWithin counters p
point-within counters x p a h = record {
  inside = (let e : p.first ≡ x.first = a.first in let f : p.bins ≡ length x.bins = a.bins in omega (arith, e, f, h));
  bins = λ v l.
      let many : 0 + length x.bins ≡ p.bins = (let f : p.bins ≡ length x.bins = a.bins in omega (arith, f)) in
      subst (λ z. All (λ b. b < p.bins) z) (sym (a.hits v l))
      (subst (λ n. All (λ b. b < n) (hits_from 0 x.bins v)) many (all-below 0 (0 + length x.bins) (hits_from 0 x.bins v) (hits-between 0 x.bins v)));
}

points-within : (counters : ℕ) (xs : List PointPlan) (ys : List Point) → ArePointsOf xs ys → All (IsPlanWithin counters) xs → All (IsPointWithin counters) ys
points-within counters [] [] a h = All-nil (IsPointWithin counters)
points-within counters [] (p ∷ ps) a h = absurd a
points-within counters (x ∷ xs) [] a h = absurd a
points-within counters (x ∷ xs) (p ∷ ps) a h =
    All-cons (IsPointWithin counters) p ps (point-within counters x p a.0 (All-head (IsPlanWithin counters) x xs h)) (points-within counters xs ps a.1 (All-tail (IsPlanWithin counters) x xs h))

-- ---- groups

one-small : (first many i : ℕ) → one_of first many i ≤ 1
one-small first many i =
    ⊎_elim (λ h. let e : one_of first many i ≡ 0 = one_low first many i h in omega (arith, e))
    (λ h. ⊎_elim (λ k. let e : one_of first many i ≡ 1 = one_in first many i h k in omega (arith, e)) (λ k. let e : one_of first many i ≡ 0 = one_high first many i k in omega (arith, e)) (cases_lt i (first + many)))
    (cases_lt i first)

later-group : (m n : ℕ) (g : Group) → m ≤ n → IsGroupWithin m g → IsGroupWithin n g
later-group m n g l w = record {
  samples = (let a : g.samples < m = w.samples in omega (arith, a, l));
  points = λ k d lt. record { inside = (let p = (w.points k d lt).inside in omega (arith, p, l)); bins = (w.points k d lt).bins };
  crosses = λ k d lt. omega (arith, l, w.crosses k d lt);
}

module _ (text : Spelling) (classes : List TClass) (flats : List FlatClass) where
  -- one group
  record IsOneBehind (first : ℕ) (x : GroupText) (y : Group) : Type 0 where
    many : ℕ
    end : (group_plan text classes flats first x).end ≡ first + many
    has : (k : ℕ) → owners_in k y ≡ one_of first many k
    within : IsGroupWithin (group_plan text classes flats first x).end y

  one-group : (first total : ℕ) (x : GroupText) (y : Group) → IsGroupOf (group_plan text classes flats first x) y → parts_refusals (group_of text classes flats x) 0 total x.parts ≡ [] → IsOneBehind first x y
  one-group first total x y a e = record {
    many = 1 + behind.many;
    end = (let n : (all_parts (group_of text classes flats x) first x.parts).next ≡ suc first + behind.many = behind.next in omega (arith, n));
    has = λ k. owned k;
    within = record {
      samples = (let n : (all_parts (group_of text classes flats x) first x.parts).next ≡ suc first + behind.many = behind.next in let s : y.samples ≡ first = a.samples in omega (arith, n, s));
      points = points-within (all_parts (group_of text classes flats x) first x.parts).next (all_parts (group_of text classes flats x) first x.parts).points y.points a.points below.points;
      crosses = subst (λ cs. All (IsCrossWithin (all_parts (group_of text classes flats x) first x.parts).next y.points) cs) (sym a.crosses) below.crosses;
    };
  }
    where
      same : (group_of text classes flats x).counts ≡ map (size_of_part (group_of text classes flats x)) x.parts
      same = counts_are (group_of text classes flats x) 0 total x.parts e

      are : (k : ℕ) → bins_in y.points k ≡ slice_index (point_sizes (group_of text classes flats x) x.parts) k
      are k =
          bins-at-place (all_parts (group_of text classes flats x) first x.parts).points y.points a.points k
          ∙ ap (λ z. slice_index z k) (sizes_are (group_of text classes flats x) x.parts 0 (no_parts (suc first)) x.parts)

      exact : AreExact (group_of text classes flats x) x.parts same y.points are 0 x.parts
      exact = are_exact (group_of text classes flats x) x.parts same y.points are 0 total x.parts e

      behind : IsBehind (group_of text classes flats x) x.parts same y.points are (no_parts (suc first)) (all_parts (group_of text classes flats x) first x.parts)
      behind = walked (group_of text classes flats x) x.parts same y.points are 0 (no_parts (suc first)) x.parts exact

      below : IsBelow (group_of text classes flats x) x.parts same y.points are (all_parts (group_of text classes flats x) first x.parts)
      below = walked_below (group_of text classes flats x) x.parts same y.points are 0 (no_parts (suc first)) x.parts exact
          (record { points = All-nil (IsPlanWithin (suc first)); crosses = All-nil (IsCrossWithin (suc first) y.points) })

      owned : (k : ℕ) → owners_in k y ≡ one_of first (1 + behind.many) k
      owned k =
          let s : one_of y.samples 1 k ≡ one_of first 1 k = ap (λ z. one_of z 1 k) a.samples in
          let p : sum_by (of_point k) y.points ≡ sum_by (of_plan k) (all_parts (group_of text classes flats x) first x.parts).points =
          points-owners k (all_parts (group_of text classes flats x) first x.parts).points y.points a.points
          in
          let c : sum_by (of_cross k y.points) y.crosses ≡ sum_by (of_cross k y.points) (all_parts (group_of text classes flats x) first x.parts).crosses = ap (sum_by (of_cross k y.points)) a.crosses in
          let b : sum_by (of_plan k) (all_parts (group_of text classes flats x) first x.parts).points + sum_by (of_cross k y.points) (all_parts (group_of text classes flats x) first x.parts).crosses
          ≡ 0 + 0 + one_of (suc first) behind.many k = behind.owners k
          in
          let n : first + 1 ≡ suc first = omega arith in
          let j : one_of first 1 k + one_of (suc first) behind.many k ≡ one_of first (1 + behind.many) k = ap (λ z. one_of first 1 k + one_of z behind.many k) (sym n) ∙ one_joined first 1 behind.many k in
          omega (arith, s, p, c, b, j)

  -- and all of them
  record AreBehind (first : ℕ) (xs : List GroupText) (ys : List Group) : Type 0 where
    many : ℕ
    end : end_of text classes flats first xs ≡ first + many
    has : (k : ℕ) → owners k ys ≡ one_of first many k
    within : All (IsGroupWithin (end_of text classes flats first xs)) ys

  all-groups : (find : Finder) (i total first : ℕ) (xs : List GroupText) (ys : List Group) → AreGroupsOf (group_plans text classes flats first xs) ys → groups_refusals text classes flats find i total xs ≡ [] → AreBehind first xs ys
  all-groups find i total first [] [] a e = record { many = 0; end = omega arith; has = λ k. sym (one_none first k); within = All-nil (IsGroupWithin first) }
  all-groups find i total first [] (y ∷ ys) a e = absurd a
  all-groups find i total first (x ∷ xs) [] a e = absurd a
  all-groups find i total first (x ∷ xs) (y ∷ ys) a e =
      let one : group_refusals text classes flats find i total x ≡ [] =
      left_empty (group_refusals text classes flats find i total x) (groups_refusals text classes flats find (suc i) (parts_total (group_of text classes flats x) 0 total x.parts) xs) e
      in
      let rest : groups_refusals text classes flats find (suc i) (parts_total (group_of text classes flats x) 0 total x.parts) xs ≡ [] =
      right_empty (group_refusals text classes flats find i total x) (groups_refusals text classes flats find (suc i) (parts_total (group_of text classes flats x) 0 total x.parts) xs) e
      in
      let h = one-group first total x y a.0 (inner find i total x one) in
      let t = all-groups find (suc i) (parts_total (group_of text classes flats x) 0 total x.parts) (group_plan text classes flats first x).end xs ys a.1 rest in
      let u : (group_plan text classes flats first x).end ≡ first + h.many = h.end in
      let v : end_of text classes flats (group_plan text classes flats first x).end xs ≡ (group_plan text classes flats first x).end + t.many = t.end in
      record {
        many = h.many + t.many;
        end = omega (arith, u, v);
        has = λ k.
            let p : owners_in k y ≡ one_of first h.many k = h.has k in
            let q : owners k ys ≡ one_of (first + h.many) t.many k = t.has k ∙ ap (λ z. one_of z t.many k) u in
            let j : one_of first h.many k + one_of (first + h.many) t.many k ≡ one_of first (h.many + t.many) k = one_joined first h.many t.many k in
            sum_by-cons (owners_in k) y ys ∙ (let r : owners_in k y + owners k ys ≡ one_of first (h.many + t.many) k = omega (arith, p, q, j) in r);
        within = All-cons (IsGroupWithin (end_of text classes flats (group_plan text classes flats first x).end xs)) y ys
            (later-group (group_plan text classes flats first x).end (end_of text classes flats (group_plan text classes flats first x).end xs) y (omega (arith, v)) h.within) t.within;
      }
    where
      inner : (find : Finder) (i total : ℕ) (x : GroupText) → group_refusals text classes flats find i total x ≡ [] → parts_refusals (group_of text classes flats x) 0 total x.parts ≡ []
      inner find i total x e =
          right_empty (unless (is_some (class_from 0 classes (text x.class))) refusal.UnknownCover x.class) (parts_refusals (group_of text classes flats x) 0 total x.parts)
          (right_empty (unless (nat_lt i MOST_GROUPS) refusal.TooManyBins x.name) (unless (is_some (class_from 0 classes (text x.class))) refusal.UnknownCover x.class ++ parts_refusals (group_of text classes flats x) 0 total x.parts)
          (right_empty (second text find i x.name) (unless (nat_lt i MOST_GROUPS) refusal.TooManyBins x.name ++ (unless (is_some (class_from 0 classes (text x.class))) refusal.UnknownCover x.class ++ parts_refusals (group_of text classes flats x) 0 total x.parts)) e))

  pub are_apart : (groups : List GroupText) (m : Made) → refusals text classes flats groups ≡ [] → m.counters < 2 ^ 64 → IsMade text classes flats groups m → AreApart m.groups m.counters
  are_apart groups m e l h =
      let b = all-groups (finder text (map group_name groups)) 0 0 0 groups m.groups h.groups e in
      record {
        few = l;
        within = subst (λ n. All (IsGroupWithin n) m.groups) (sym h.counters) b.within;
        apart = λ i. let o : owners i m.groups ≡ one_of 0 b.many i = b.has i in let s : one_of 0 b.many i ≤ 1 = one-small 0 b.many i in omega (arith, o, s);
      }
