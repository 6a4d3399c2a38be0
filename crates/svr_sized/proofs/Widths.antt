-- The fewest bits that numbers up to a cap have.
use Rattle.std.proofs.Common.{◌≡◌, ◌<◌, ◌≤◌, ◌+◌, ◌-◌, ◌^◌, ℕ, zero, suc, Bool, true, false, cond, refl, sym, ◌∙◌, ap, subst, arith}
use Rattle.std.specs.Prelude.{nat_lt}
use Rattle.std.proofs.Math.Pow.{pow_mono}
use Rattle.std.proofs.lemmas.Bool.{ltb-true, ltb-false}
use Rattle.svr_phase.specs.Sizes.{bits_from, cap_bits}

-- ---- the loop

pub bits_end : (n k cap : ℕ) → nat_lt cap (2 ^ k) ≡ true → bits_from n k cap ≡ k
bits_end zero k cap h = refl
bits_end (suc n) k cap h = ap (λ b. cond b k (bits_from n (suc k) cap)) h

-- so many bits are enough
pub bits_found : (i cap : ℕ) → nat_lt cap (2 ^ i) ≡ true → bits_from (32 - i) i cap ≡ cap_bits cap → i ≡ cap_bits cap
bits_found i cap h before = sym (bits_end (32 - i) i cap h) ∙ before

-- or one more is looked at
pub bits_more : (i cap : ℕ) → i < 32 → nat_lt cap (2 ^ i) ≡ false → bits_from (32 - i) i cap ≡ cap_bits cap → bits_from (32 - (i + 1)) (i + 1) cap ≡ cap_bits cap
bits_more i cap lt h before =
    let up : i + 1 ≡ suc i = omega arith in
    let left : 32 - i ≡ suc (32 - (i + 1)) = omega (arith, lt) in
    ap (λ k. bits_from (32 - (i + 1)) k cap) up
    ∙ sym (ap (λ b. cond b i (bits_from (32 - (i + 1)) (suc i) cap)) h)
    ∙ ap (λ n. bits_from n i cap) (sym left)
    ∙ before

pub bits_last : (i cap : ℕ) → 32 ≤ i → i ≤ 32 → bits_from (32 - i) i cap ≡ cap_bits cap → 32 ≡ cap_bits cap
bits_last i cap low high before =
    let all : i ≡ 32 = omega (arith, low, high) in
    sym (ap (λ k. bits_from (32 - k) k cap) all) ∙ before

-- ---- what they are

bits_above : (n k cap : ℕ) → k ≤ bits_from n k cap
bits_above zero k cap = omega arith
bits_above (suc n) k cap = by_test (nat_lt cap (2 ^ k)) (bits_above n (suc k) cap)
  where
    by_test : (b : Bool) → suc k ≤ bits_from n (suc k) cap → k ≤ cond b k (bits_from n (suc k) cap)
    by_test true rest = omega arith
    by_test false rest = omega (arith, rest)

-- one where the cap is not 0
pub bits_some : (cap : ℕ) → 1 ≤ cap → 1 ≤ cap_bits cap
bits_some cap le = by_test (nat_lt cap (2 ^ 0)) refl
  where
    by_test : (b : Bool) → nat_lt cap (2 ^ 0) ≡ b → 1 ≤ cond b 0 (bits_from 31 1 cap)
    by_test true e = let lt : cap < 1 = ltb-true cap (2 ^ 0) e in absurd (omega (arith, lt, le))
    by_test false e = bits_above 31 1 cap

-- no more than any that are enough
bits_most : (m n k cap : ℕ) → cap < 2 ^ m → k ≤ m → bits_from n k cap ≤ m
bits_most m zero k cap lt le = le
bits_most m (suc n) k cap lt le = by_test (nat_lt cap (2 ^ k)) refl (bits_most m n (suc k) cap lt)
  where
    by_test : (b : Bool) → nat_lt cap (2 ^ k) ≡ b → (suc k ≤ m → bits_from n (suc k) cap ≤ m) → cond b k (bits_from n (suc k) cap) ≤ m
    by_test true e rest = le
    by_test false e rest = rest (below (nat_lt k m) refl)
      where
        below : (c : Bool) → nat_lt k m ≡ c → suc k ≤ m
        below true h = let up : k < m = ltb-true k m h in omega (arith, up)
        below false h =
            let ge : m ≤ k = ltb-false k m h in
            let high : 2 ^ k ≤ cap = ltb-false cap (2 ^ k) e in
            absurd (omega (arith, lt, high, pow_mono {i = m} {j = k} ge))

pub bits_few : (cap : ℕ) → cap ≤ 2048 → cap_bits cap ≤ 12
bits_few cap le = bits_most 12 32 0 cap (omega (arith, le)) (omega arith)

-- and enough
bits_enough : (n k cap : ℕ) → cap < 2 ^ (n + k) → cap < 2 ^ bits_from n k cap
bits_enough zero k cap lt = subst (λ (m : ℕ). cap < 2 ^ m) (let e : 0 + k ≡ k = omega arith in e) lt
bits_enough (suc n) k cap lt = by_test (nat_lt cap (2 ^ k)) refl (bits_enough n (suc k) cap (subst (λ (m : ℕ). cap < 2 ^ m) (let e : suc n + k ≡ n + suc k = omega arith in e) lt))
  where
    by_test : (b : Bool) → nat_lt cap (2 ^ k) ≡ b → cap < 2 ^ bits_from n (suc k) cap → cap < 2 ^ cond b k (bits_from n (suc k) cap)
    by_test true e rest = ltb-true cap (2 ^ k) e
    by_test false e rest = rest

pub cap_below : (cap : ℕ) → cap ≤ 2048 → cap < 2 ^ cap_bits cap
cap_below cap le = bits_enough 32 0 cap (let e : cap < 2 ^ 32 = omega (arith, le) in e)
