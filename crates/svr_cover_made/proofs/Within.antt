-- The stored values of numbers between levels
use Rattle.std.proofs.Common.{◌≡◌, ℕ, suc, zero, ◌+◌, ◌-◌, ◌^◌, ◌<◌, ◌≤◌, ◌*◌, pos, negsuc, cond, Bool, true, false, ◌&&◌, ◌||◌, nat_le, nat_lt, [], ◌∷◌, ◌++◌, refl, sym, ap, ◌∙◌, arith, if◌then◌else◌}
use Rattle.std.specs.Prelude.{min}
use Rattle.std.specs.List.{list_any}
use Rattle.std.proofs.lemmas.Bool.{ltb-true, ltb-false, leb-true, le-leb, lt-leb}
use Rattle.std.proofs.Math.Nat.{pow-suc, min-le_left, min-le_right, min-eq_left, le-min}
use Rattle.std.proofs.lemmas.Nat.{pow_pos}
use Rattle.svr_num.specs.Num.{signed_of}
use Rattle.svr_typed.specs.declared.class.NumType.{NumType}
use Rattle.svr_cover_union.specs.declared.ranges.Range.{Range}
use Rattle.svr_cover_union.specs.Union.{range_has}
use Rattle.svr_cover_made.specs.Stored.{last_of, top_of, no_range, upper, minus, lower}
use Rattle.svr_cover_made.specs.Within.{within, HoldTheirNumbers}

-- two tests are the same where each follows from the other
same-test : (a b : Bool) → (a ≡ true → b ≡ true) → (b ≡ true → a ≡ true) → a ≡ b
same-test true true f g = refl
same-test true false f g = sym (f refl)
same-test false true f g = g refl
same-test false false f g = refl

first-of : (a b : Bool) → (a && b) ≡ true → a ≡ true
first-of true b h = refl
first-of false b h = h

second-of : (a b : Bool) → (a && b) ≡ true → b ≡ true
second-of true b h = h
second-of false b h = absurd (let z : false ≡ true = h in cc)

both-of : (a b : Bool) → a ≡ true → b ≡ true → (a && b) ≡ true
both-of a b h k = ap (λ z. z && b) h ∙ k

and-false : (b : Bool) → (b && false) ≡ false
and-false true = refl
and-false false = refl

or-false : (b : Bool) → (b || false) ≡ b
or-false true = refl
or-false false = refl

abbrev range : ℕ → ℕ → Range
range low high = record { low = low; high = high }

-- a range that has a value
has : (v low high : ℕ) → low ≤ v → v ≤ high → range_has v (range low high) ≡ true
has v low high h k = both-of (nat_le low v) (nat_le v high) (le-leb low v h) (le-leb v high k)

low-of : (v low high : ℕ) → range_has v (range low high) ≡ true → low ≤ v
low-of v low high h = leb-true low v (first-of (nat_le low v) (nat_le v high) h)

high-of : (v low high : ℕ) → range_has v (range low high) ≡ true → v ≤ high
high-of v low high h = leb-true v high (second-of (nat_le low v) (nat_le v high) h)

has-not-low : (v low high : ℕ) → v < low → range_has v (range low high) ≡ false
has-not-low v low high h = ap (λ b. b && nat_le v high) (lt-leb low v h)

has-not-high : (v low high : ℕ) → high < v → range_has v (range low high) ≡ false
has-not-high v low high h = ap (λ b. nat_le low v && b) (lt-leb v high h) ∙ and-false (nat_le low v)

has-none : (v : ℕ) → range_has v no_range ≡ false
has-none zero = has-not-low 0 1 0 (omega arith)
has-none (suc v) = has-not-high (suc v) 1 0 (omega arith)

-- ---- numbers from 0 on

within-low : (low high n : ℕ) → within low high (pos n) ≡ true → low ≤ 4294967296 + n
within-low low high n h = leb-true low (4294967296 + n) (first-of (nat_le low (4294967296 + n)) (nat_le (4294967296 + n) high) h)

within-high : (low high n : ℕ) → within low high (pos n) ≡ true → 4294967296 + n ≤ high
within-high low high n h = leb-true (4294967296 + n) high (second-of (nat_le low (4294967296 + n)) (nat_le (4294967296 + n) high) h)

is-within : (low high n : ℕ) → low ≤ 4294967296 + n → 4294967296 + n ≤ high → within low high (pos n) ≡ true
is-within low high n h k = both-of (nat_le low (4294967296 + n)) (nat_le (4294967296 + n) high) (le-leb low (4294967296 + n) h) (le-leb (4294967296 + n) high k)

not-within : (low high n : ℕ) → high < 4294967296 + n → within low high (pos n) ≡ false
not-within low high n h = ap (λ b. nat_le low (4294967296 + n) && b) (lt-leb (4294967296 + n) high h) ∙ and-false (nat_le low (4294967296 + n))

min-first : (a b v : ℕ) → v ≤ min a b → v ≤ a
min-first a b v h = omega (arith, h, min-le_left a b)

min-second : (a b v : ℕ) → v ≤ min a b → v ≤ b
min-second a b v h = omega (arith, h, min-le_right a b)

min-both : (a b v : ℕ) → v ≤ a → v ≤ b → v ≤ min a b
min-both a b v h k = le-min h k

-- of a type whose numbers go up to the value at least
upper-has : (kind : NumType) (v low high : ℕ) → v ≤ top_of kind → range_has v (upper kind low high) ≡ within low high (pos v)
upper-has kind v low high le = go (nat_lt high 4294967296) refl
  where
    go : (b : Bool) → nat_lt high 4294967296 ≡ b → range_has v (if b then no_range else range (low - 4294967296) (min (high - 4294967296) (top_of kind))) ≡ within low high (pos v)
    go true e = let l : high < 4294967296 = ltb-true high 4294967296 e in has-none v ∙ sym (not-within low high v (omega (arith, l)))
    go false e =
        let l : 4294967296 ≤ high = ltb-false high 4294967296 e in
        same-test (range_has v (range (low - 4294967296) (min (high - 4294967296) (top_of kind)))) (within low high (pos v))
        (λ h. let p : low - 4294967296 ≤ v = low-of v (low - 4294967296) (min (high - 4294967296) (top_of kind)) h in
        let q : v ≤ high - 4294967296 = min-first (high - 4294967296) (top_of kind) v (high-of v (low - 4294967296) (min (high - 4294967296) (top_of kind)) h) in
        is-within low high v (omega (arith, p)) (omega (arith, q, l)))
        (λ h. let p : low ≤ 4294967296 + v = within-low low high v h in
        let q : 4294967296 + v ≤ high = within-high low high v h in
        has v (low - 4294967296) (min (high - 4294967296) (top_of kind)) (omega (arith, p)) (min-both (high - 4294967296) (top_of kind) v (omega (arith, q)) le))

-- a value above all of them is in none
upper-none : (kind : NumType) (v low high : ℕ) → top_of kind < v → range_has v (upper kind low high) ≡ false
upper-none kind v low high lt = go (nat_lt high 4294967296)
  where
    go : (b : Bool) → range_has v (if b then no_range else range (low - 4294967296) (min (high - 4294967296) (top_of kind))) ≡ false
    go true = has-none v
    go false =
        let m : min (high - 4294967296) (top_of kind) ≤ top_of kind = min-le_right (high - 4294967296) (top_of kind) in
        has-not-high v (low - 4294967296) (min (high - 4294967296) (top_of kind)) (omega (arith, m, lt))

-- ---- numbers below 0

-- a value from 0 on is in none
lower-none : (kind : NumType) (v low high : ℕ) → v + top_of kind < last_of kind.width → range_has v (lower kind low high) ≡ false
lower-none kind v low high lt = go (nat_lt low 4294967296)
  where
    go : (b : Bool) → range_has v (if b then range (minus kind (min (4294967295 - low) (top_of kind))) (minus kind (4294967295 - high)) else no_range) ≡ false
    go true =
        let m : min (4294967295 - low) (top_of kind) ≤ top_of kind = min-le_right (4294967295 - low) (top_of kind) in
        has-not-low v (last_of kind.width - min (4294967295 - low) (top_of kind)) (minus kind (4294967295 - high)) (omega (arith, m, lt))
    go false = has-none v

below-low : (low high m : ℕ) → within low high (negsuc m) ≡ true → low + suc m ≤ 4294967296
below-low low high m h = leb-true (low + suc m) 4294967296 (first-of (nat_le (low + suc m) 4294967296) (nat_le 4294967296 (high + suc m)) h)

below-high : (low high m : ℕ) → within low high (negsuc m) ≡ true → 4294967296 ≤ high + suc m
below-high low high m h = leb-true 4294967296 (high + suc m) (second-of (nat_le (low + suc m) 4294967296) (nat_le 4294967296 (high + suc m)) h)

is-below : (low high m : ℕ) → low + suc m ≤ 4294967296 → 4294967296 ≤ high + suc m → within low high (negsuc m) ≡ true
is-below low high m h k = both-of (nat_le (low + suc m) 4294967296) (nat_le 4294967296 (high + suc m)) (le-leb (low + suc m) 4294967296 h) (le-leb 4294967296 (high + suc m) k)

not-below : (low high m : ℕ) → 4294967296 < low + suc m → within low high (negsuc m) ≡ false
not-below low high m h = ap (λ b. b && nat_le 4294967296 (high + suc m)) (lt-leb (low + suc m) 4294967296 h)

-- the value of -1 - m, where the type has that number and a greatest number below the greatest value
lower-has : (kind : NumType) (v m low high : ℕ) → v + m ≡ last_of kind.width → m ≤ top_of kind → top_of kind < last_of kind.width → range_has v (lower kind low high) ≡ within low high (negsuc m)
lower-has kind v m low high e le lt = go (nat_lt low 4294967296) refl
  where
    go : (b : Bool) → nat_lt low 4294967296 ≡ b → range_has v (if b then range (minus kind (min (4294967295 - low) (top_of kind))) (minus kind (4294967295 - high)) else no_range) ≡ within low high (negsuc m)
    go false f = let l : 4294967296 ≤ low = ltb-false low 4294967296 f in has-none v ∙ sym (not-below low high m (omega (arith, l)))
    go true f =
        let l : low < 4294967296 = ltb-true low 4294967296 f in
        let few : min (4294967295 - low) (top_of kind) ≤ 4294967295 - low = min-le_left (4294967295 - low) (top_of kind) in
        let most : min (4294967295 - low) (top_of kind) ≤ top_of kind = min-le_right (4294967295 - low) (top_of kind) in
        same-test (range_has v (range (minus kind (min (4294967295 - low) (top_of kind))) (minus kind (4294967295 - high)))) (within low high (negsuc m))
        (λ h. let p : last_of kind.width - min (4294967295 - low) (top_of kind) ≤ v = low-of v (minus kind (min (4294967295 - low) (top_of kind))) (minus kind (4294967295 - high)) h in
        let q : v ≤ last_of kind.width - (4294967295 - high) = high-of v (minus kind (min (4294967295 - low) (top_of kind))) (minus kind (4294967295 - high)) h in
        is-below low high m (omega (arith, p, e, le, lt, l, few, most)) (omega (arith, q, e, le, lt)))
        (λ h. let p : low + suc m ≤ 4294967296 = below-low low high m h in
        let q : 4294967296 ≤ high + suc m = below-high low high m h in
        let r : m ≤ min (4294967295 - low) (top_of kind) = le-min (omega (arith, p)) le in
        has v (minus kind (min (4294967295 - low) (top_of kind))) (minus kind (4294967295 - high)) (omega (arith, r, e)) (omega (arith, q, e, le)))

-- ---- types

or-first : (a b : Bool) → b ≡ false → (a || (b || false)) ≡ a
or-first a b h = ap (λ z. a || (z || false)) h ∙ or-false a

or-second : (a b : Bool) → a ≡ false → (a || (b || false)) ≡ b
or-second a b h = ap (λ z. z || (b || false)) h ∙ or-false b

-- 2 to the power of a width is twice that of one less
twice : (w : ℕ) → 1 ≤ w → 2 ^ w ≡ 2 ^ (w - 1) + 2 ^ (w - 1)
twice zero h = let z : 1 ≤ 0 = h in absurd (omega (arith, z))
twice (suc w) h =
    let e : suc w - 1 ≡ w = omega arith in
    let d : 2 ^ w * 2 ≡ 2 ^ w + 2 ^ w = omega arith in
    pow-suc 2 w ∙ d ∙ ap (λ k. 2 ^ k + 2 ^ k) (sym e)

last-is : (w : ℕ) → w ≤ 64 → last_of w ≡ 2 ^ w - 1
last-is w h = ap (λ k. 2 ^ k - 1) (min-eq_left h)

top-signed : (kind : NumType) → kind.width ≤ 64 → kind.signed ≡ true → top_of kind ≡ 2 ^ (kind.width - 1) - 1
top-signed kind most e = ap (λ b. if b then last_of (kind.width - 1) else last_of kind.width) e ∙ last-is (kind.width - 1) (omega (arith, most))

top-plain : (kind : NumType) → kind.width ≤ 64 → kind.signed ≡ false → top_of kind ≡ 2 ^ kind.width - 1
top-plain kind most e = ap (λ b. if b then last_of (kind.width - 1) else last_of kind.width) e ∙ last-is kind.width most

module _ (kind : NumType) (least : 1 ≤ kind.width) (most : kind.width ≤ 64) (low high v : ℕ) (lt : v < 2 ^ kind.width) where
  abbrev Holds : Bool → Type 0
  Holds s = list_any (range_has v) (if s then ([] ++ upper kind low high ∷ []) ++ lower kind low high ∷ [] else [] ++ upper kind low high ∷ []) ≡ within low high (cond s (signed_of kind.width v) (pos v))

  plain-holds : kind.signed ≡ false → Holds false
  plain-holds e =
      let t : top_of kind ≡ 2 ^ kind.width - 1 = top-plain kind most e in
      or-false (range_has v (upper kind low high)) ∙ upper-has kind v low high (omega (arith, t, lt))

  signed-holds : kind.signed ≡ true → (b : Bool) → nat_lt v (2 ^ (kind.width - 1)) ≡ b
      → (range_has v (upper kind low high) || (range_has v (lower kind low high) || false)) ≡ within low high (cond b (pos v) (negsuc (2 ^ kind.width - suc v)))
  signed-holds e true f =
      let t : top_of kind ≡ 2 ^ (kind.width - 1) - 1 = top-signed kind most e in
      let d : 2 ^ kind.width ≡ 2 ^ (kind.width - 1) + 2 ^ (kind.width - 1) = twice kind.width least in
      let l : last_of kind.width ≡ 2 ^ kind.width - 1 = last-is kind.width most in
      let p : v < 2 ^ (kind.width - 1) = ltb-true v (2 ^ (kind.width - 1)) f in
      or-first (range_has v (upper kind low high)) (range_has v (lower kind low high)) (lower-none kind v low high (omega (arith, t, d, l, p)))
      ∙ upper-has kind v low high (omega (arith, t, p))
  signed-holds e false f =
      let t : top_of kind ≡ 2 ^ (kind.width - 1) - 1 = top-signed kind most e in
      let d : 2 ^ kind.width ≡ 2 ^ (kind.width - 1) + 2 ^ (kind.width - 1) = twice kind.width least in
      let l : last_of kind.width ≡ 2 ^ kind.width - 1 = last-is kind.width most in
      let p : 2 ^ (kind.width - 1) ≤ v = ltb-false v (2 ^ (kind.width - 1)) f in
      let q : 1 ≤ 2 ^ (kind.width - 1) = omega (arith, pow_pos (kind.width - 1)) in
      or-second (range_has v (upper kind low high)) (range_has v (lower kind low high)) (upper-none kind v low high (omega (arith, t, p, q)))
      ∙ lower-has kind v (2 ^ kind.width - suc v) low high (omega (arith, l, lt)) (omega (arith, t, d, p)) (omega (arith, t, d, l, q))

  holds : (s : Bool) → kind.signed ≡ s → Holds s
  holds false e = plain-holds e
  holds true e = signed-holds e (nat_lt v (2 ^ (kind.width - 1))) refl

pub hold_their_numbers : (kind : NumType) → 1 ≤ kind.width → kind.width ≤ 64 → HoldTheirNumbers kind
hold_their_numbers kind least most low high v lt = holds kind least most low high v lt kind.signed refl
