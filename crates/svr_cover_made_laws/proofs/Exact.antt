-- A cross has as many counters as there are tuples of the bins of its points
use Rattle.std.proofs.Common.{◌≡◌, ℕ, zero, suc, ◌+◌, ◌-◌, ◌*◌, ◌^◌, ◌<◌, ◌≤◌, ◌&&◌, min, true, nat_le, List, [], ◌∷◌, ◌++◌, map, reverse, Option, None, Some, is_some, ⊎_elim, true≢false, refl, sym, ap, ◌∙◌, arith}
use Rattle.std.specs.Prelude.{⊤, slice_index}
use Rattle.std.proofs.Math.Nat.{mul_assoc, mul_comm}
use Rattle.std.proofs.lemmas.Bool.{leb-true, and_parts, cases_lt}
use Rattle.std.proofs.lemmas.List.{reverse-append}
use Rattle.svr_refusal.specs.declared.refusal.Refusal.TheVariants as refusal
use Rattle.svr_cover_text.specs.declared.text.PartText.{PartText}
use Rattle.svr_cover_text.specs.declared.text.PartText.TheVariants as t
use Rattle.svr_cover.specs.declared.point.Point.{Point}
use Rattle.svr_cover.specs.Points.{bins_in}
use Rattle.svr_cover_checked.specs.declared.limits.TheConstants.{MOST_TUPLES, MOST_ALL}
use Rattle.svr_cover_checked.specs.Numbers.{unless}
use Rattle.svr_cover_checked.specs.Refusals.{Group, times, point_bins, tuples_from, tuples_fit, points_refusals, head_refusals, part_refusals, parts_refusals, total_behind}
use Rattle.svr_cover_made.specs.Plan.{or_zero, ranks, rank_of}
use Rattle.svr_cover_laws.specs.Parts.{tuples_of}
use Rattle.svr_cover_made_laws.proofs.Empty.{left_empty, right_empty, unless_fine}
use Rattle.svr_cover_made_laws.proofs.Ranked.{size_of_part, point_sizes, found_is}

-- ---- arithmetic

-- a product that is counted up to one more than there may be tuples
capped : (product b q n : ℕ) → n ≤ 65536 → (n ≤ 65536 → n ≡ times product b * q) → n ≡ product * (b * q)
capped product b q n l f = ⊎_elim small large (cases_lt (product * b) 65537)
  where
    small : product * b < 65537 → n ≡ product * (b * q)
    small h =
        let e : times product b ≡ product * b = (let d : min (min (product * b) (2 ^ 64 - 1)) 65537 ≡ product * b = omega (arith, h) in d) in
        f l ∙ ap (λ z. z * q) e ∙ mul_assoc product b q

    none : (r : ℕ) → q ≡ r → n ≡ 65537 * r → n ≡ product * (b * q)
    none zero e d =
        let z : b * 0 ≡ 0 = omega arith in
        let y : product * 0 ≡ 0 = omega arith in
        let x : product * (b * q) ≡ 0 = ap (λ r. product * (b * r)) e ∙ ap (λ r. product * r) z ∙ y in
        omega (arith, x, d)
    none (suc r) e d = absurd (omega (arith, d, l))

    large : 65537 ≤ product * b → n ≡ product * (b * q)
    large h =
        let e : times product b ≡ 65537 = (let d : min (min (product * b) (2 ^ 64 - 1)) 65537 ≡ 65537 = omega (arith, h) in d) in
        none q refl (f l ∙ ap (λ z. z * q) e)

module _ (g : Group) (parts : List PartText) (same : g.counts ≡ map (size_of_part g) parts) where
  -- how many tuples of bins the points of these names have
  abbrev pub product_of : List ℕ → ℕ
  product_of [] = 1
  product_of (p ∷ ps) = slice_index (point_sizes g parts) (rank_of g (ranks 0 parts) p) * product_of ps

  -- what is known of the tuples of a cross
  abbrev Counted : ℕ → ℕ → List ℕ → Type 0
  Counted i product ps = (n : ℕ) × (tuples_from g i product ps ≡ Some n) × (n ≤ 65536 → n ≡ product * product_of ps)

  -- how many there are from one point on
  abbrev behind_one : ℕ → ℕ → List ℕ → Option ℕ → Option ℕ
  behind_one i product ps None = None
  behind_one i product ps (Some bins) = tuples_from g i (times product bins) ps

  counted : (i product : ℕ) (ps : List ℕ) → points_refusals g i ps ≡ [] → Counted i product ps
  counted i product [] e = (product, refl, λ _. let q : product ≡ product * 1 = omega arith in q)
  counted i product (p ∷ ps) e = go (point_bins g i p) refl (unless_fine (is_some (point_bins g i p)) refusal.UnknownCover p (left_empty (unless (is_some (point_bins g i p)) refusal.UnknownCover p) (points_refusals g i ps) e))
      (λ next. counted i next ps (right_empty (unless (is_some (point_bins g i p)) refusal.UnknownCover p) (points_refusals g i ps) e))
    where
      go : (o : Option ℕ) → point_bins g i p ≡ o → is_some o ≡ true → ((next : ℕ) → Counted i next ps) → Counted i product (p ∷ ps)
      go None h s f = absurd (true≢false (sym s))
      go (Some b) h s f =
          let r = f (times product b) in
          let at : slice_index (point_sizes g parts) (rank_of g (ranks 0 parts) p) ≡ b = found_is g parts same i p b h in (
            r.0,
            ap (behind_one i product ps) h ∙ r.1,
            λ l. capped product b (product_of ps) r.0 l r.2 ∙ ap (λ z. product * (z * product_of ps)) (sym at),
          )

  cross-is : (i total name : ℕ) (points : List ℕ) → part_refusals g i total (t.Cross name points) ≡ [] → or_zero (tuples_from g i 1 points) ≡ product_of points
  cross-is i total name points e =
      let one : unless (tuples_fit (tuples_from g i 1 points) total) refusal.TooManyBins name ++ points_refusals g i points ≡ [] =
      right_empty (head_refusals g i name) (unless (tuples_fit (tuples_from g i 1 points) total) refusal.TooManyBins name ++ points_refusals g i points) e
      in
      let r = counted i 1 points (right_empty (unless (tuples_fit (tuples_from g i 1 points) total) refusal.TooManyBins name) (points_refusals g i points) one) in
      let fit : tuples_fit (tuples_from g i 1 points) total ≡ true =
      unless_fine (tuples_fit (tuples_from g i 1 points) total) refusal.TooManyBins name (left_empty (unless (tuples_fit (tuples_from g i 1 points) total) refusal.TooManyBins name) (points_refusals g i points) one)
      in
      let fits : (nat_le r.0 MOST_TUPLES && nat_le (min (total + r.0) (2 ^ 64 - 1)) MOST_ALL) ≡ true = ap (λ o. tuples_fit o total) (sym r.1) ∙ fit in
      let few : r.0 ≤ 65536 = leb-true r.0 65536 (and_parts (nat_le r.0 MOST_TUPLES) (nat_le (min (total + r.0) (2 ^ 64 - 1)) MOST_ALL) fits).0 in
      ap or_zero r.1 ∙ r.2 few ∙ (let q : 1 * product_of points ≡ product_of points = omega arith in q)

  -- ---- over the points that are made

  module _ (made : List Point) (are : (k : ℕ) → bins_in made k ≡ slice_index (point_sizes g parts) k) where
    tuples-append : (xs ys : List ℕ) → tuples_of made (xs ++ ys) ≡ tuples_of made xs * tuples_of made ys
    tuples-append [] ys = let e : tuples_of made ys ≡ 1 * tuples_of made ys = omega arith in e
    tuples-append (x ∷ xs) ys = ap (λ z. bins_in made x * z) (tuples-append xs ys) ∙ sym (mul_assoc (bins_in made x) (tuples_of made xs) (tuples_of made ys))

    tuples-are : (ps : List ℕ) → tuples_of made (reverse (map (rank_of g (ranks 0 parts)) ps)) ≡ product_of ps
    tuples-are [] = refl
    tuples-are (p ∷ ps) =
        let one : bins_in made (rank_of g (ranks 0 parts) p) * 1 ≡ bins_in made (rank_of g (ranks 0 parts) p) = omega arith in
        ap (tuples_of made) (reverse-append (rank_of g (ranks 0 parts) p ∷ []) (map (rank_of g (ranks 0 parts)) ps))
        ∙ tuples-append (reverse (map (rank_of g (ranks 0 parts)) ps)) (rank_of g (ranks 0 parts) p ∷ [])
        ∙ ap (λ z. z * (bins_in made (rank_of g (ranks 0 parts) p) * 1)) (tuples-are ps)
        ∙ ap (λ z. product_of ps * z) (one ∙ are (rank_of g (ranks 0 parts) p))
        ∙ mul_comm (product_of ps) (slice_index (point_sizes g parts) (rank_of g (ranks 0 parts) p))

    -- each cross has as many counters as tuples
    abbrev pub AreExact : ℕ → List PartText → Type 0
    AreExact i [] = ⊤
    AreExact i (t.Point name formal prop bins ∷ xs) = AreExact (suc i) xs
    AreExact i (t.Cross name points ∷ xs) = (tuples_of made (reverse (map (rank_of g (ranks 0 parts)) points)) ≡ or_zero (tuples_from g i 1 points)) × AreExact (suc i) xs

    pub are_exact : (i total : ℕ) (xs : List PartText) → parts_refusals g i total xs ≡ [] → AreExact i xs
    are_exact i total [] e = tt
    are_exact i total (t.Point name formal prop bins ∷ xs) e =
        are_exact (suc i) total xs (right_empty (part_refusals g i total (t.Point name formal prop bins)) (parts_refusals g (suc i) total xs) e)
    are_exact i total (t.Cross name points ∷ xs) e = (
      tuples-are points ∙ sym (cross-is i total name points (left_empty (part_refusals g i total (t.Cross name points)) (parts_refusals g (suc i) (total_behind g i total (t.Cross name points)) xs) e)),
      are_exact (suc i) (total_behind g i total (t.Cross name points)) xs
          (right_empty (part_refusals g i total (t.Cross name points)) (parts_refusals g (suc i) (total_behind g i total (t.Cross name points)) xs) e),
    )
