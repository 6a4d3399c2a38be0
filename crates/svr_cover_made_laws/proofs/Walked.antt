-- The parts of a group have their counters one behind the other
use Rattle.std.proofs.Common.{◌≡◌, ℕ, suc, ◌+◌, ◌<◌, ◌≤◌, ◌&&◌, nat_le, nat_lt, List, [], ◌∷◌, ◌++◌, length, map, reverse, append_assoc, append-nil, ⊎_elim, sym, ap, ◌∙◌, arith, if◌then◌else◌}
use Rattle.std.specs.Prelude.{slice_index}
use Rattle.std.specs.List.{All, sum_by}
use Rattle.std.proofs.lemmas.Bool.{le-leb, lt-leb, lt-ltb, le-ltb, cases_lt, and_right}
use Rattle.std.proofs.lemmas.List.{map-append}
use Rattle.std.proofs.lemmas.List.Elements.{All-push}
use Rattle.std.proofs.lemmas.List.Sums.{sum_by_push}
use Rattle.svr_cover_text.specs.declared.text.PartText.{PartText}
use Rattle.svr_cover_text.specs.declared.text.PartText.TheVariants as t
use Rattle.svr_cover.specs.declared.point.Point.{Point}
use Rattle.svr_cover.specs.declared.group.Cross.{Cross}
use Rattle.svr_cover.specs.Points.{bins_in}
use Rattle.svr_cover_checked.specs.Refusals.{Group, tuples_from}
use Rattle.svr_cover_made.specs.declared.plan.PointPlan.{PointPlan}
use Rattle.svr_cover_made.specs.declared.plan.Parts.{Parts}
use Rattle.svr_cover_made.specs.Plan.{or_zero, ranks, rank_of, point_plan, cross_plan, with_point, with_cross, with_parts}
use Rattle.svr_cover_laws.specs.Parts.{one_of, tuples_of, of_cross, IsCrossWithin}
use Rattle.svr_cover_made_laws.proofs.Ranked.{size_of_part, size_in, point_sizes}
use Rattle.svr_cover_made_laws.proofs.Exact.{AreExact}

-- ---- counters in a row

pub one_in : (first many i : ℕ) → first ≤ i → i < first + many → one_of first many i ≡ 1
one_in first many i a b = ap (λ t. if t && nat_lt i (first + many) then 1 else 0) (le-leb first i a) ∙ ap (λ t. if t then 1 else 0) (lt-ltb i (first + many) b)

pub one_low : (first many i : ℕ) → i < first → one_of first many i ≡ 0
one_low first many i h = ap (λ t. if t && nat_lt i (first + many) then 1 else 0) (lt-leb first i h)

pub one_high : (first many i : ℕ) → first + many ≤ i → one_of first many i ≡ 0
one_high first many i h = ap (λ t. if t then 1 else 0) (and_right (nat_le first i) (nat_lt i (first + many)) (le-ltb i (first + many) h))

pub one_none : (first i : ℕ) → one_of first 0 i ≡ 0
one_none first i = ⊎_elim (λ h. one_low first 0 i h) (λ h. one_high first 0 i (omega (arith, h))) (cases_lt i first)

pub one_joined : (first m n i : ℕ) → one_of first m i + one_of (first + m) n i ≡ one_of first (m + n) i
one_joined first m n i = ⊎_elim low above (cases_lt i first)
  where
    low : i < first → one_of first m i + one_of (first + m) n i ≡ one_of first (m + n) i
    low h =
        let a : one_of first m i ≡ 0 = one_low first m i h in
        let b : one_of (first + m) n i ≡ 0 = one_low (first + m) n i (omega (arith, h)) in
        let c : one_of first (m + n) i ≡ 0 = one_low first (m + n) i h in
        omega (arith, a, b, c)

    in_first : first ≤ i → i < first + m → one_of first m i + one_of (first + m) n i ≡ one_of first (m + n) i
    in_first h k =
        let a : one_of first m i ≡ 1 = one_in first m i h k in
        let b : one_of (first + m) n i ≡ 0 = one_low (first + m) n i k in
        let c : one_of first (m + n) i ≡ 1 = one_in first (m + n) i h (omega (arith, k)) in
        omega (arith, a, b, c)

    in_second : first + m ≤ i → i < first + m + n → one_of first m i + one_of (first + m) n i ≡ one_of first (m + n) i
    in_second h k =
        let a : one_of first m i ≡ 0 = one_high first m i h in
        let b : one_of (first + m) n i ≡ 1 = one_in (first + m) n i h k in
        let c : one_of first (m + n) i ≡ 1 = one_in first (m + n) i (omega (arith, h)) (omega (arith, k)) in
        omega (arith, a, b, c)

    behind : first + m + n ≤ i → one_of first m i + one_of (first + m) n i ≡ one_of first (m + n) i
    behind k =
        let a : one_of first m i ≡ 0 = one_high first m i (omega (arith, k)) in
        let b : one_of (first + m) n i ≡ 0 = one_high (first + m) n i k in
        let c : one_of first (m + n) i ≡ 0 = one_high first (m + n) i (omega (arith, k)) in
        omega (arith, a, b, c)

    above : first ≤ i → one_of first m i + one_of (first + m) n i ≡ one_of first (m + n) i
    above h = ⊎_elim (λ k. in_first h k) (λ k. ⊎_elim (λ l. in_second k l) (λ l. behind l) (cases_lt i (first + m + n))) (cases_lt i (first + m))

-- ---- points as they are planned

abbrev pub plan_size : PointPlan → ℕ
plan_size x = length x.bins

abbrev pub of_plan : ℕ → PointPlan → ℕ
of_plan i x = one_of x.first (length x.bins) i

abbrev pub IsPlanWithin : ℕ → PointPlan → Type 0
IsPlanWithin counters x = x.first + length x.bins ≤ counters

module _ (g : Group) (parts : List PartText) where
  -- how many bins the points have
  pub sizes_are : (i : ℕ) (s : Parts) (xs : List PartText) → map plan_size (with_parts g (ranks 0 parts) i s xs).points ≡ map plan_size s.points ++ point_sizes g xs
  sizes_are i s [] = sym (append-nil (map plan_size s.points))
  sizes_are i s (t.Point name formal prop bins ∷ xs) =
      sizes_are (suc i) (with_point g s name prop bins) xs ∙ ap (λ z. z ++ point_sizes g xs) (map-append plan_size s.points (point_plan g s.next prop bins ∷ []))
      ∙ append_assoc (map plan_size s.points) (size_in g prop bins ∷ []) (point_sizes g xs)
  sizes_are i s (t.Cross name points ∷ xs) = sizes_are (suc i) (with_cross g (ranks 0 parts) i s name points) xs

  module _ (same : g.counts ≡ map (size_of_part g) parts) (made : List Point) (are : (k : ℕ) → bins_in made k ≡ slice_index (point_sizes g parts) k) where
    -- how many of the parts so far have the counter
    abbrev pub owners_of : ℕ → Parts → ℕ
    owners_of k s = sum_by (of_plan k) s.points + sum_by (of_cross k made) s.crosses

    pub record IsBehind (s u : Parts) : Type 0 where
      pub many : ℕ
      pub next : u.next ≡ s.next + many
      pub owners : (k : ℕ) → owners_of k u ≡ owners_of k s + one_of s.next many k

    pub walked : (i : ℕ) (s : Parts) (xs : List PartText) → AreExact g parts same made are i xs → IsBehind s (with_parts g (ranks 0 parts) i s xs)
    walked i s [] e = record { many = 0; next = omega arith; owners = λ k. let a : one_of s.next 0 k ≡ 0 = one_none s.next k in omega (arith, a) }
    walked i s (t.Point name formal prop bins ∷ xs) e =
        let h = walked (suc i) (with_point g s name prop bins) xs e in
        let x : (with_parts g (ranks 0 parts) (suc i) (with_point g s name prop bins) xs).next ≡ s.next + size_in g prop bins + h.many = h.next in
        record {
          many = size_in g prop bins + h.many;
          next = omega (arith, x);
          owners = λ k.
              let a : owners_of k (with_parts g (ranks 0 parts) (suc i) (with_point g s name prop bins) xs) ≡ owners_of k (with_point g s name prop bins) + one_of (s.next + size_in g prop bins) h.many k = h.owners k in
              let b : sum_by (of_plan k) (s.points ++ point_plan g s.next prop bins ∷ []) ≡ sum_by (of_plan k) s.points + one_of s.next (size_in g prop bins) k =
              sum_by_push (of_plan k) s.points (point_plan g s.next prop bins)
              in
              let c : one_of s.next (size_in g prop bins) k + one_of (s.next + size_in g prop bins) h.many k ≡ one_of s.next (size_in g prop bins + h.many) k = one_joined s.next (size_in g prop bins) h.many k in
              omega (arith, a, b, c);
        }
    walked i s (t.Cross name points ∷ xs) e =
        let h = walked (suc i) (with_cross g (ranks 0 parts) i s name points) xs e.1 in
        let x : (with_parts g (ranks 0 parts) (suc i) (with_cross g (ranks 0 parts) i s name points) xs).next ≡ s.next + or_zero (tuples_from g i 1 points) + h.many = h.next in
        record {
          many = or_zero (tuples_from g i 1 points) + h.many;
          next = omega (arith, x);
          owners = λ k.
              let a : owners_of k (with_parts g (ranks 0 parts) (suc i) (with_cross g (ranks 0 parts) i s name points) xs)
              ≡ owners_of k (with_cross g (ranks 0 parts) i s name points) + one_of (s.next + or_zero (tuples_from g i 1 points)) h.many k = h.owners k
              in
              let b : sum_by (of_cross k made) (s.crosses ++ cross_plan g (ranks 0 parts) s.next points ∷ [])
              ≡ sum_by (of_cross k made) s.crosses + one_of s.next (tuples_of made (reverse (map (rank_of g (ranks 0 parts)) points))) k = sum_by_push (of_cross k made) s.crosses (cross_plan g (ranks 0 parts) s.next points)
              in
              let d : one_of s.next (tuples_of made (reverse (map (rank_of g (ranks 0 parts)) points))) k ≡ one_of s.next (or_zero (tuples_from g i 1 points)) k = ap (λ z. one_of s.next z k) e.0 in
              let c : one_of s.next (or_zero (tuples_from g i 1 points)) k + one_of (s.next + or_zero (tuples_from g i 1 points)) h.many k ≡ one_of s.next (or_zero (tuples_from g i 1 points) + h.many) k =
              one_joined s.next (or_zero (tuples_from g i 1 points)) h.many k
              in
              omega (arith, a, b, c, d);
        }

    -- all of them end before the next counter
    pub record IsBelow (s : Parts) : Type 0 where
      pub points : All (IsPlanWithin s.next) s.points
      pub crosses : All (IsCrossWithin s.next made) s.crosses

    later-points : (m n : ℕ) (xs : List PointPlan) → m ≤ n → All (IsPlanWithin m) xs → All (IsPlanWithin n) xs
    later-points m n xs l h k d lt = omega (arith, l, h k d lt)

    later-crosses : (m n : ℕ) (xs : List Cross) → m ≤ n → All (IsCrossWithin m made) xs → All (IsCrossWithin n made) xs
    later-crosses m n xs l h k d lt = omega (arith, l, h k d lt)

    pub walked_below : (i : ℕ) (s : Parts) (xs : List PartText) → AreExact g parts same made are i xs → IsBelow s → IsBelow (with_parts g (ranks 0 parts) i s xs)
    walked_below i s [] e h = h
    walked_below i s (t.Point name formal prop bins ∷ xs) e h =
        walked_below (suc i) (with_point g s name prop bins) xs e
        (record {
          points =
              All-push (IsPlanWithin (s.next + size_in g prop bins)) s.points (point_plan g s.next prop bins) (later-points s.next (s.next + size_in g prop bins) s.points (omega arith) h.points) (omega arith);
          crosses = later-crosses s.next (s.next + size_in g prop bins) s.crosses (omega arith) h.crosses;
        })
    walked_below i s (t.Cross name points ∷ xs) e h =
        let q : tuples_of made (reverse (map (rank_of g (ranks 0 parts)) points)) ≡ or_zero (tuples_from g i 1 points) = e.0 in
        walked_below (suc i) (with_cross g (ranks 0 parts) i s name points) xs e.1
        (record {
          points = later-points s.next (s.next + or_zero (tuples_from g i 1 points)) s.points (omega arith) h.points;
          crosses =
              All-push (IsCrossWithin (s.next + or_zero (tuples_from g i 1 points)) made) s.crosses (cross_plan g (ranks 0 parts) s.next points)
              (later-crosses s.next (s.next + or_zero (tuples_from g i 1 points)) s.crosses (omega arith) h.crosses) (omega (arith, q));
        })
