-- The counters of a bin and of a tuple stand once among those of a sample where the values are in them, and else not at all
use Rattle.std.proofs.Common.{◌≡◌, ℕ, zero, suc, ◌+◌, ◌-◌, ◌*◌, ◌/◌, ◌%◌, ◌^◌, ◌<◌, ◌≤◌, ◌==◌, ◌&&◌, Bool, true, false, List, [], ◌∷◌, ◌++◌, length, map, Option, None, Some, slice_get, slice_index_or, refl, sym, ap, subst, ◌∙◌, arith, if◌then◌else◌}
use Rattle.std.specs.Prelude.{slice_index}
use Rattle.std.specs.List.{All}
use Rattle.std.proofs.lemmas.Bool.{eq-eqb}
use Rattle.std.proofs.lemmas.List.{map-append}
use Rattle.std.proofs.lemmas.Nat.{div_below}
use Rattle.svr_cover_union.specs.declared.ranges.Range.{Range}
use Rattle.svr_cover_union.specs.Union.{hits_from}
use Rattle.svr_cover.specs.declared.point.Point.{Point}
use Rattle.svr_cover.specs.declared.group.Cross.{Cross}
use Rattle.svr_cover.specs.Counters.{number_of}
use Rattle.svr_cover.specs.Points.{hits_of, hits_at, hits_in, bins_of, bins_in}
use Rattle.svr_cover.specs.Tuples.{plus, tuple_at, tuples_hit}
use Rattle.svr_cover_laws.specs.Parts.{tuples_of, IsPointWithin, IsCrossWithin}
use Rattle.svr_cover_laws.specs.Counted.{IsStored, has_at, HasBins, HaveBins, prop_of, value_in, tuple_has}
use Rattle.svr_cover_laws.proofs.Hits.{times, upto, point_hits, cross_hits}
use Rattle.svr_cover_laws.proofs.Standing.{AreBetween, once, times-shift, hits-times, hits-length, between-from}
use Rattle.svr_cover_laws.proofs.Products.{upto-same, number, times-tuples}
use Rattle.svr_cover_laws.proofs.Ways.{AllHit, number_in, many_in, hits_below, are_hit, hit_is}
use Rattle.svr_cover_laws.proofs.Within.{counter_is}

module _ (values : List (List ℕ)) (stored : IsStored values) where
  bin-times : (p : Point) (bins : List (List Range)) → HasBins p bins → (k : ℕ) → times k (hits_of values p) ≡ once (has_at bins k (number_of values p.prop))
  bin-times p bins h k =
      let e : 0 + k ≡ k = omega arith in
      ap (times k) (h.hits (number_of values p.prop) (stored p.prop)) ∙ ap (λ i. times i (hits_from 0 bins (number_of values p.prop))) (sym e) ∙ hits-times 0 k bins (number_of values p.prop)

  pub bin_once : (p : Point) (bins : List (List Range)) → HasBins p bins → (k : ℕ) → times (p.first + k) (point_hits values p) ≡ once (has_at bins k (number_of values p.prop))
  bin_once p bins h k = times-shift p.first k (hits_of values p) ∙ bin-times p bins h k

  -- ---- the point at a place, which is there where it has bins

  place-times : (o : Option Point) (bins : List (List Range)) → ((p : Point) → o ≡ Some p → HasBins p bins) → 0 < bins_of o → (k : ℕ) → times k (hits_at values o) ≡ once (has_at bins k (number_of values (prop_of o)))
  place-times None bins h l k = absurd (omega (arith, l))
  place-times (Some p) bins h l k = bin-times p bins (h p refl) k

  place-few : (o : Option Point) (bins : List (List Range)) → ((p : Point) → o ≡ Some p → HasBins p bins) → length (hits_at values o) ≤ bins_of o
  place-few None bins h = omega arith
  place-few (Some p) bins h =
      let b : HasBins p bins = h p refl in
      let e : length (hits_of values p) ≡ length (hits_from 0 bins (number_of values p.prop)) = ap length (b.hits (number_of values p.prop) (stored p.prop)) in
      let m : p.bins ≡ length bins = b.many in
      omega (arith, e, m, hits-length 0 bins (number_of values p.prop))

  -- ---- tuples

  both : (a b : Bool) → once a * once b ≡ once (a && b)
  both true true = omega arith
  both true false = omega arith
  both false b = omega arith

  upto-map : (k g : ℕ → ℕ) (n : ℕ) → upto (λ d. k (g d)) n ≡ map k (upto g n)
  upto-map k g zero = refl
  upto-map k g (suc n) = ap (λ z. z ++ k (g n) ∷ []) (upto-map k g n) ∙ sym (map-append k (upto g n) (g n ∷ []))

  module _ (counters : ℕ) (few : counters < 2 ^ 64) (points : List Point) (within : All (IsPointWithin counters) points) (bins : List (List (List Range))) (have : HaveBins points bins) where
    number-once : (cross : List ℕ) (t : ℕ) → t < tuples_of points cross → times t (upto (number_in points values cross) (many_in points values cross)) ≡ once (tuple_has points bins values cross t)
    number-once [] t l = let e : 0 ≡ t = omega (arith, l) in ap (λ b. if b then suc 0 else 0) (eq-eqb 0 t e)
    number-once (p ∷ ps) t l = step (number-once ps (t / bins_in points p) below)
      where
        some_bin : (b : ℕ) → bins_in points p ≡ b → 0 < b
        some_bin zero e = let z : bins_in points p * tuples_of points ps ≡ 0 = ap (λ z. z * tuples_of points ps) e ∙ (let y : 0 * tuples_of points ps ≡ 0 = omega arith in y) in absurd (omega (arith, z, l))
        some_bin (suc b) e = omega arith

        pos : 0 < bins_in points p
        pos = some_bin (bins_in points p) refl

        below : t / bins_in points p < tuples_of points ps
        below = div_below t (bins_in points p) (tuples_of points ps) pos (omega (arith, l))

        between : AreBetween 0 (bins_in points p) (hits_in points values p)
        between = between-from (bins_in points p) (hits_in points values p) (hits_below points values counters within stored p)

        step : times (t / bins_in points p) (upto (number_in points values ps) (many_in points values ps)) ≡ once (tuple_has points bins values ps (t / bins_in points p))
            → times t (upto (number_in points values (p ∷ ps)) (many_in points values (p ∷ ps))) ≡ once (tuple_has points bins values (p ∷ ps) t)
        step h =
            ap (times t)
            (upto-same (number_in points values (p ∷ ps)) (number (bins_in points p) t (hits_in points values p) (number_in points values ps) pos between) (many_in points values ps * length (hits_in points values p)) (λ d k. refl))
            ∙ times-tuples (bins_in points p) t (hits_in points values p) (number_in points values ps) pos between (many_in points values ps)
            ∙ ap (λ z. z * times (t / bins_in points p) (upto (number_in points values ps) (many_in points values ps))) (place-times (slice_get points p) (slice_index_or bins p []) (have p) pos (t % bins_in points p))
            ∙ ap (λ z. once (has_at (slice_index_or bins p []) (t % bins_in points p) (value_in points values p)) * z) h
            ∙ both (has_at (slice_index_or bins p []) (t % bins_in points p) (value_in points values p)) (tuple_has points bins values ps (t / bins_in points p))

    pub tuple_once : (c : Cross) → IsCrossWithin counters points c → (t : ℕ) → t < tuples_of points c.points → times (c.first + t) (cross_hits points values c) ≡ once (tuple_has points bins values c.points t)
    tuple_once c w t l = ap (λ n. times (c.first + t) (upto (λ k. plus (tuple_at points values c.points k) c.first) n)) many ∙ from-first (many_in points values c.points) refl ∙ number-once c.points t l
      where
        many : tuples_hit points values 1 c.points ≡ many_in points values c.points
        many =
            let a : tuples_hit points values 1 c.points ≡ 1 * many_in points values c.points =
            hit_is points values (λ p. place-few (slice_get points p) (slice_index_or bins p []) (have p)) c.points 1 (omega (arith, l)) (omega (arith, w, few))
            in
            a ∙ (let b : 1 * many_in points values c.points ≡ many_in points values c.points = omega arith in b)

        from-first : (n : ℕ) → many_in points values c.points ≡ n → times (c.first + t) (upto (λ k. plus (tuple_at points values c.points k) c.first) n) ≡ times t (upto (number_in points values c.points) n)
        from-first zero e = refl
        from-first (suc n) e =
            let h : AllHit points values c.points = are_hit points values 1 c.points (omega (arith, many, e)) in
            ap (times (c.first + t))
            (upto-same (λ k. plus (tuple_at points values c.points k) c.first) (λ k. c.first + number_in points values c.points k) (suc n)
            (λ k _. let a = counter_is counters few values stored points within c w h k in a ∙ (let b : number_in points values c.points k + c.first ≡ c.first + number_in points values c.points k = omega arith in b)))
            ∙ ap (times (c.first + t)) (upto-map (λ z. c.first + z) (number_in points values c.points) (suc n)) ∙ times-shift c.first t (upto (number_in points values c.points) (suc n))
