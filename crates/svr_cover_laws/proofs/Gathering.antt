-- A sample counts one more at each of its counters, and the counters behind samples are how often these counted
use Rattle.std.proofs.Common.{◌≡◌, ℕ, zero, suc, ◌+◌, ◌-◌, ◌^◌, ◌<◌, ◌≤◌, ◌==◌, Bool, true, false, List, [], ◌∷◌, ◌++◌, length, map, refl, sym, ap, ◌∙◌, arith, if◌then◌else◌}
use Rattle.std.specs.Prelude.{slice_index}
use Rattle.std.specs.List.{fold, sum_by}
use Rattle.std.proofs.Math.Nat.{min-eq_left}
use Rattle.std.proofs.lemmas.Bool.{eqb-true, eqb-false}
use Rattle.std.proofs.lemmas.List.{get_or-set_same, get_or-set_other, length-set}
use Rattle.std.proofs.lemmas.List.Sums.{sum_by-cons}
use Rattle.svr_cover.specs.declared.point.Point.{Point}
use Rattle.svr_cover.specs.declared.group.Cross.{Cross}
use Rattle.svr_cover.specs.declared.group.Group.{Group}
use Rattle.svr_cover.specs.Counters.{one_more, counted, counted_from}
use Rattle.svr_cover.specs.Points.{hits_of, counted_points}
use Rattle.svr_cover.specs.Tuples.{plus, tuple_at, counted_tuples, tuples_hit}
use Rattle.svr_cover.specs.Sampling.{counted_crosses, counted_group, taken, sampled}
use Rattle.svr_cover.specs.Cover.{CoverTerm, cover_step}
use Rattle.svr_cover_laws.specs.Counted.{cover_behind}
use Rattle.svr_cover_laws.proofs.Hits.{times, upto, point_hits, points_hits, cross_hits, crosses_hits, group_hits, taken_hits, hits, count_all}

-- ---- a sample is its counters

count-append : (counts xs ys : List ℕ) → count_all counts (xs ++ ys) ≡ count_all (count_all counts xs) ys
count-append counts [] ys = refl
count-append counts (x ∷ xs) ys = count-append (counted counts x) xs ys

from-is : (first : ℕ) (counts bs : List ℕ) → counted_from first counts bs ≡ count_all counts (map (λ b. first + b) bs)
from-is first counts [] = refl
from-is first counts (b ∷ bs) = from-is first (counted counts (first + b)) bs

points-is : (values : List (List ℕ)) (counts : List ℕ) (ps : List Point) → counted_points values counts ps ≡ count_all counts (points_hits values ps)
points-is values counts [] = refl
points-is values counts (p ∷ ps) =
    points-is values (counted_from p.first counts (hits_of values p)) ps ∙ ap (λ z. count_all z (points_hits values ps)) (from-is p.first counts (hits_of values p))
    ∙ sym (count-append counts (point_hits values p) (points_hits values ps))

tuples-is : (points : List Point) (values : List (List ℕ)) (first : ℕ) (counts cross : List ℕ) (n : ℕ)
    → counted_tuples points values first counts cross n ≡ count_all counts (upto (λ k. plus (tuple_at points values cross k) first) n)
tuples-is points values first counts cross zero = refl
tuples-is points values first counts cross (suc n) =
    ap (λ z. counted z (plus (tuple_at points values cross n) first)) (tuples-is points values first counts cross n)
    ∙ sym (count-append counts (upto (λ k. plus (tuple_at points values cross k) first) n) (plus (tuple_at points values cross n) first ∷ []))

crosses-is : (points : List Point) (values : List (List ℕ)) (counts : List ℕ) (cs : List Cross) → counted_crosses points values counts cs ≡ count_all counts (crosses_hits points values cs)
crosses-is points values counts [] = refl
crosses-is points values counts (c ∷ cs) =
    crosses-is points values (counted_tuples points values c.first counts c.points (tuples_hit points values 1 c.points)) cs
    ∙ ap (λ z. count_all z (crosses_hits points values cs)) (tuples-is points values c.first counts c.points (tuples_hit points values 1 c.points))
    ∙ sym (count-append counts (cross_hits points values c) (crosses_hits points values cs))

group-is : (values : List (List ℕ)) (counts : List ℕ) (g : Group) → counted_group values counts g ≡ count_all counts (group_hits values g)
group-is values counts g =
    crosses-is g.points values (counted_points values (counted counts g.samples) g.points) g.crosses
    ∙ ap (λ z. count_all z (crosses_hits g.points values g.crosses)) (points-is values (counted counts g.samples) g.points)
    ∙ sym (count-append (counted counts g.samples) (points_hits values g.points) (crosses_hits g.points values g.crosses))

taken-is : (class : ℕ) (values : List (List ℕ)) (counts : List ℕ) (g : Group) → taken class values counts g ≡ count_all counts (taken_hits class values g)
taken-is class values counts g = go (g.class == class)
  where
    go : (b : Bool) → (if b then counted_group values counts g else counts) ≡ count_all counts (if b then group_hits values g else [])
    go true = group-is values counts g
    go false = refl

pub sampled-is : (class : ℕ) (values : List (List ℕ)) (counts : List ℕ) (gs : List Group) → sampled class values counts gs ≡ count_all counts (hits class values gs)
sampled-is class values counts [] = refl
sampled-is class values counts (g ∷ gs) =
    sampled-is class values (taken class values counts g) gs ∙ ap (λ z. count_all z (hits class values gs)) (taken-is class values counts g)
    ∙ sym (count-append counts (taken_hits class values g) (hits class values gs))

-- ---- what a counter is

counted-length : (counts : List ℕ) (x : ℕ) → length (counted counts x) ≡ length counts
counted-length counts x = length-set counts x (one_more (slice_index counts x))

all-length : (counts xs : List ℕ) → length (count_all counts xs) ≡ length counts
all-length counts [] = refl
all-length counts (x ∷ xs) = all-length (counted counts x) xs ∙ counted-length counts x

more-is : (n : ℕ) → n < 2 ^ 64 - 1 → one_more n ≡ suc n
more-is n h = let a : n + 1 ≤ 2 ^ 64 - 1 = omega (arith, h) in let e : one_more n ≡ n + 1 = min-eq_left a in let f : n + 1 ≡ suc n = omega arith in e ∙ f

-- one more at a counter, where it does not pass what 64 bits hold
same-at : (counts : List ℕ) (x i : ℕ) → x ≡ i → i < length counts → slice_index counts i < 2 ^ 64 - 1 → slice_index (counted counts x) i ≡ suc (slice_index counts i)
same-at counts x i e l h =
    ap (λ z. slice_index (counted counts z) i) e ∙ get_or-set_same counts i (one_more (slice_index counts i)) 0 l ∙ more-is (slice_index counts i) h

other-at : (counts : List ℕ) (x i : ℕ) → (x ≡ i → ⊥) → slice_index (counted counts x) i ≡ slice_index counts i
other-at counts x i h = get_or-set_other counts x i (one_more (slice_index counts x)) 0 (λ k. h (sym k))

-- and at each of a list
counts-at : (counts xs : List ℕ) (i : ℕ) → i < length counts → slice_index counts i + times i xs ≤ 2 ^ 64 - 1 → slice_index (count_all counts xs) i ≡ slice_index counts i + times i xs
counts-at counts [] i l h = omega arith
counts-at counts (x ∷ xs) i l h = go (x == i) refl (λ k. counts-at (counted counts x) xs i within k) h
  where
    within : i < length (counted counts x)
    within = let e : length (counted counts x) ≡ length counts = counted-length counts x in omega (arith, e, l)

    go : (b : Bool) → (x == i) ≡ b
        → (slice_index (counted counts x) i + times i xs ≤ 2 ^ 64 - 1 → slice_index (count_all (counted counts x) xs) i ≡ slice_index (counted counts x) i + times i xs)
        → slice_index counts i + (if b then suc (times i xs) else times i xs) ≤ 2 ^ 64 - 1
        → slice_index (count_all (counted counts x) xs) i ≡ slice_index counts i + (if b then suc (times i xs) else times i xs)
    go true e f k =
        let n : slice_index (counted counts x) i ≡ suc (slice_index counts i) = same-at counts x i (eqb-true x i e) l (omega (arith, k)) in
        let r : slice_index (count_all (counted counts x) xs) i ≡ slice_index (counted counts x) i + times i xs = f (omega (arith, n, k)) in
        omega (arith, n, r)
    go false e f k =
        let n : slice_index (counted counts x) i ≡ slice_index counts i = other-at counts x i (eqb-false x i e) in
        let r : slice_index (count_all (counted counts x) xs) i ≡ slice_index (counted counts x) i + times i xs = f (omega (arith, n, k)) in
        omega (arith, n, r)

-- ---- and behind samples

module _ {S : Type 0} (class : S → ℕ) (values : S → List (List ℕ)) where
  -- how often a sample counts one more at a counter
  abbrev pub often : ℕ → List Group → S → ℕ
  often i groups s = times i (hits (class s) (values s) groups)

  pub behind-at : (c : CoverTerm) (ss : List S) (i : ℕ) → i < length c.counts → slice_index c.counts i + sum_by (often i c.groups) ss ≤ 2 ^ 64 - 1
      → slice_index (cover_behind class values c ss).counts i ≡ slice_index c.counts i + sum_by (often i c.groups) ss
  behind-at c [] i l h = omega arith
  behind-at c (s ∷ ss) i l h =
      let e : sum_by (often i c.groups) (s ∷ ss) ≡ often i c.groups s + sum_by (often i c.groups) ss = sum_by-cons (often i c.groups) s ss in
      let is : sampled (class s) (values s) c.counts c.groups ≡ count_all c.counts (hits (class s) (values s) c.groups) = sampled-is (class s) (values s) c.counts c.groups in
      let n : slice_index (sampled (class s) (values s) c.counts c.groups) i ≡ slice_index c.counts i + often i c.groups s =
      ap (λ z. slice_index z i) is ∙ counts-at c.counts (hits (class s) (values s) c.groups) i l (omega (arith, e, h))
      in
      let m : length (sampled (class s) (values s) c.counts c.groups) ≡ length c.counts = ap length is ∙ all-length c.counts (hits (class s) (values s) c.groups) in
      let r : slice_index (cover_behind class values (cover_step c (class s) (values s)) ss).counts i ≡ slice_index (sampled (class s) (values s) c.counts c.groups) i + sum_by (often i c.groups) ss =
      behind-at (cover_step c (class s) (values s)) ss i (omega (arith, m, l)) (omega (arith, n, e, h))
      in
      r ∙ (let q : slice_index (sampled (class s) (values s) c.counts c.groups) i + sum_by (often i c.groups) ss ≡ slice_index c.counts i + sum_by (often i c.groups) (s ∷ ss) = omega (arith, n, e) in q)
