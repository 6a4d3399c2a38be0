-- The numbers of the tuples whose bins have the values of a sample, as long as 64 bits hold the number of all tuples
use Rattle.std.proofs.Common.{◌≡◌, ℕ, zero, suc, ◌+◌, ◌-◌, ◌*◌, ◌/◌, ◌%◌, ◌^◌, ◌<◌, ◌≤◌, ◌==◌, min, Bool, true, false, List, [], ◌∷◌, length, Option, None, Some, slice_get, refl, sym, ap, subst, ◌∙◌, arith, if◌then◌else◌}
use Rattle.std.specs.Prelude.{⊤, slice_index}
use Rattle.std.specs.List.{All}
use Rattle.std.proofs.Math.Nat.{min-eq_left, mul-add, mul_assoc, mul_comm}
use Rattle.std.proofs.lemmas.Nat.{mul-le, mul-add-lt, mod_below}
use Rattle.std.proofs.lemmas.Bool.{ne_eqb}
use Rattle.std.proofs.lemmas.Option.{get_or_from_slice_get, slice_get_within}
use Rattle.svr_cover.specs.declared.point.Point.{Point}
use Rattle.svr_cover.specs.Counters.{number_of}
use Rattle.svr_cover.specs.Points.{hits_of, hits_at, hits_in, bins_of, bins_in}
use Rattle.svr_cover.specs.Tuples.{plus, digit, share, further, walked, start, tuple_at, tuples_hit}
use Rattle.svr_cover.specs.Tuples as tuples
use Rattle.svr_cover_laws.specs.Counted.{IsStored}
use Rattle.svr_cover_laws.specs.Parts.{IsPointWithin, tuples_of}

-- ---- arithmetic

times-is : (a b : ℕ) → a * b ≤ 2 ^ 64 - 1 → tuples.times a b ≡ a * b
times-is a b h = min-eq_left h

pub plus-is : (a b : ℕ) → a + b ≤ 2 ^ 64 - 1 → plus a b ≡ a + b
plus-is a b h = min-eq_left h

digit-is : (n many : ℕ) → 0 < many → digit n many ≡ n % many
digit-is n many h = ap (λ b. if b then 0 else n % many) (ne_eqb many 0 (λ e. omega (arith, h, e)))

share-is : (n many : ℕ) → 0 < many → share n many ≡ n / many
share-is n many h = ap (λ b. if b then 0 else n / many) (ne_eqb many 0 (λ e. omega (arith, h, e)))

-- a digit more
digit-more : (a s d b r : ℕ) → a + s * d + s * b * r ≡ a + s * (d + b * r)
digit-more a s d b r =
    let e : s * (d + b * r) ≡ s * d + s * (b * r) = mul-add s d (b * r) in
    let f : s * b * r ≡ s * (b * r) = mul_assoc s b r in
    omega (arith, e, f)

-- a number below s and a digit below b are a number below s * b
digit-below : (a s d b : ℕ) → a < s → d < b → a + s * d < s * b
digit-below a s d b h k =
    let e : d * s + a < s * b = mul-add-lt d s a b k h in
    let f : s * d ≡ d * s = mul_comm s d in
    omega (arith, e, f)

-- as long as a factor is not 0 the product is no less
factor : (s r : ℕ) → 0 < r → s ≤ s * r
factor s r h = let a : s * 1 ≤ s * r = mul-le s 1 s r (omega arith) h in omega (arith, a)

positive : (s r : ℕ) → 0 < s * r → 0 < r
positive s zero h = let e : s * 0 ≡ 0 = omega arith in absurd (omega (arith, e, h))
positive s (suc r) h = omega arith

module _ (points : List Point) (values : List (List ℕ)) where
  -- each point has a bin with its value
  abbrev pub AllHit : List ℕ → Type 0
  AllHit [] = ⊤
  AllHit (p ∷ ps) = (0 < length (hits_in points values p)) × AllHit ps

  -- the number of a tuple, and how many there are
  abbrev pub number_in : List ℕ → ℕ → ℕ
  number_in [] n = 0
  number_in (p ∷ ps) n = slice_index (hits_in points values p) (n % length (hits_in points values p)) + bins_in points p * number_in ps (n / length (hits_in points values p))

  abbrev pub many_in : List ℕ → ℕ
  many_in [] = 1
  many_in (p ∷ ps) = many_in ps * length (hits_in points values p)

  -- where one of them has no bin with its value there are none
  from-none : (cross : List ℕ) → tuples_hit points values 0 cross ≡ 0
  from-none [] = refl
  from-none (p ∷ ps) =
      let e : tuples.times 0 (length (hits_in points values p)) ≡ 0 * length (hits_in points values p) = times-is 0 (length (hits_in points values p)) (omega arith) in
      let f : 0 * length (hits_in points values p) ≡ 0 = omega arith in
      ap (λ z. tuples_hit points values z ps) (e ∙ f) ∙ from-none ps

  pub are_hit : (many : ℕ) (cross : List ℕ) → 0 < tuples_hit points values many cross → AllHit cross
  are_hit many [] h = tt
  are_hit many (p ∷ ps) h = (go (length (hits_in points values p)) h, are_hit (tuples.times many (length (hits_in points values p))) ps h)
    where
      go : (l : ℕ) → 0 < tuples_hit points values (tuples.times many l) ps → 0 < l
      go zero k =
          let f : many * 0 ≡ 0 = omega arith in
          let e : tuples.times many 0 ≡ many * 0 = times-is many 0 (omega (arith, f)) in
          let z : tuples_hit points values (tuples.times many 0) ps ≡ 0 = ap (λ z. tuples_hit points values z ps) (e ∙ f) ∙ from-none ps in
          absurd (omega (arith, z, k))
      go (suc l) k = omega arith

  module _ (counters : ℕ) (within : All (IsPointWithin counters) points) (stored : IsStored values) where
    of-one : (o : Option Point) → ((p : Point) → o ≡ Some p → IsPointWithin counters p) → All (λ b. b < bins_of o) (hits_at values o)
    of-one None h = λ k d l. absurd (omega (arith, l))
    of-one (Some p) h = (h p refl).bins (number_of values p.prop) (stored p.prop)

    -- the bins of a point that have its value are its bins
    pub hits_below : (p : ℕ) → All (λ b. b < bins_in points p) (hits_in points values p)
    hits_below p = of-one (slice_get points p) (λ q e. subst (IsPointWithin counters) (get_or_from_slice_get points p q q e) (within p q (slice_get_within points p q e)))

    digit-in : (p n : ℕ) → 0 < length (hits_in points values p) → slice_index (hits_in points values p) (n % length (hits_in points values p)) < bins_in points p
    digit-in p n h = hits_below p (n % length (hits_in points values p)) 0 (mod_below n (length (hits_in points values p)) h)

    pub number_below : (cross : List ℕ) (n : ℕ) → AllHit cross → number_in cross n < tuples_of points cross
    number_below [] n h = omega arith
    number_below (p ∷ ps) n h =
        digit-below (slice_index (hits_in points values p) (n % length (hits_in points values p))) (bins_in points p) (number_in ps (n / length (hits_in points values p))) (tuples_of points ps)
        (digit-in p n h.0) (number_below ps (n / length (hits_in points values p)) h.1)

    -- one point further
    one_further : (ps : List ℕ) (a s n b : ℕ) (h : List ℕ) → 0 < length h → a + s * slice_index h (n % length h) ≤ 2 ^ 64 - 1 → s * b ≤ 2 ^ 64 - 1
        → (walked points values (further (record { number = a; scale = s; rest = n }) b h) ps).number
        ≡ (walked points values (record { number = a + s * slice_index h (n % length h); scale = s * b; rest = n / length h }) ps).number
    one_further ps a s n b h l k m =
        let i : slice_index h (digit n (length h)) ≡ slice_index h (n % length h) = ap (slice_index h) (digit-is n (length h) l) in
        let t : tuples.times s (slice_index h (digit n (length h))) ≡ s * slice_index h (n % length h) =
        ap (tuples.times s) i ∙ times-is s (slice_index h (n % length h)) (omega (arith, k))
        in
        let p : plus a (tuples.times s (slice_index h (digit n (length h)))) ≡ a + s * slice_index h (n % length h) = ap (plus a) t ∙ plus-is a (s * slice_index h (n % length h)) k in
        ap (λ z. (walked points values (record { number = z; scale = tuples.times s b; rest = share n (length h) }) ps).number) p
        ∙ ap (λ z. (walked points values (record { number = a + s * slice_index h (n % length h); scale = z; rest = share n (length h) }) ps).number) (times-is s b m)
        ∙ ap (λ z. (walked points values (record { number = a + s * slice_index h (n % length h); scale = s * b; rest = z }) ps).number) (share-is n (length h) l)

    pub walked_is : (cross : List ℕ) (a s n : ℕ) → a < s → s * tuples_of points cross ≤ 2 ^ 64 - 1 → AllHit cross
        → (walked points values (record { number = a; scale = s; rest = n }) cross).number ≡ a + s * number_in cross n
    walked_is [] a s n l m h = let e : s * 0 ≡ 0 = omega arith in (let f : a ≡ a + s * 0 = omega (arith, e) in f)
    walked_is (p ∷ ps) a s n l m h =
        let below : number_in ps (n / length (hits_in points values p)) < tuples_of points ps = number_below ps (n / length (hits_in points values p)) h.1 in
        let whole : s * bins_in points p * tuples_of points ps ≡ s * (bins_in points p * tuples_of points ps) = mul_assoc s (bins_in points p) (tuples_of points ps) in
        let more : s * bins_in points p ≤ s * bins_in points p * tuples_of points ps = factor (s * bins_in points p) (tuples_of points ps) (omega (arith, below)) in
        let step : a + s * slice_index (hits_in points values p) (n % length (hits_in points values p)) < s * bins_in points p =
        digit-below a s (slice_index (hits_in points values p) (n % length (hits_in points values p))) (bins_in points p) l (digit-in p n h.0)
        in
        one_further ps a s n (bins_in points p) (hits_in points values p) h.0 (omega (arith, step, more, whole, m)) (omega (arith, more, whole, m))
        ∙ walked_is ps (a + s * slice_index (hits_in points values p) (n % length (hits_in points values p))) (s * bins_in points p) (n / length (hits_in points values p)) step (omega (arith, whole, m)) h.1
        ∙ digit-more a s (slice_index (hits_in points values p) (n % length (hits_in points values p))) (bins_in points p) (number_in ps (n / length (hits_in points values p)))

    pub tuple_is : (cross : List ℕ) (n : ℕ) → tuples_of points cross ≤ 2 ^ 64 - 1 → AllHit cross → tuple_at points values cross n ≡ number_in cross n
    tuple_is cross n m h = walked_is cross 0 1 n (omega arith) (omega (arith, m)) h ∙ (let e : 0 + 1 * number_in cross n ≡ number_in cross n = omega arith in e)

  -- how many tuples of bins have the values, where no point has more bins with its value than bins
  pub hit_is : ((p : ℕ) → length (hits_in points values p) ≤ bins_in points p) → (cross : List ℕ) (m : ℕ) → 0 < tuples_of points cross → m * tuples_of points cross ≤ 2 ^ 64 - 1
      → tuples_hit points values m cross ≡ m * many_in cross
  hit_is few [] m l h = let e : m ≡ m * 1 = omega arith in e
  hit_is few (p ∷ ps) m l h =
      let pos : 0 < tuples_of points ps = positive (bins_in points p) (tuples_of points ps) l in
      let whole : m * bins_in points p * tuples_of points ps ≡ m * (bins_in points p * tuples_of points ps) = mul_assoc m (bins_in points p) (tuples_of points ps) in
      let one : m * length (hits_in points values p) ≤ m * bins_in points p = mul-le m (length (hits_in points values p)) m (bins_in points p) (omega arith) (few p) in
      let more : m * bins_in points p ≤ m * bins_in points p * tuples_of points ps = factor (m * bins_in points p) (tuples_of points ps) pos in
      let all : m * length (hits_in points values p) * tuples_of points ps ≤ m * bins_in points p * tuples_of points ps =
      mul-le (m * length (hits_in points values p)) (tuples_of points ps) (m * bins_in points p) (tuples_of points ps) one (omega arith)
      in
      ap (λ z. tuples_hit points values z ps) (times-is m (length (hits_in points values p)) (omega (arith, one, more, whole, h)))
      ∙ hit_is few ps (m * length (hits_in points values p)) pos (omega (arith, all, whole, h)) ∙ mul_assoc m (length (hits_in points values p)) (many_in ps)
      ∙ ap (λ z. m * z) (mul_comm (length (hits_in points values p)) (many_in ps))
