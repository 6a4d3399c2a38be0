-- Tests, bits and rows as numbers
use Rattle.std.proofs.Common.{◌≡◌, ℕ, zero, suc, ◌+◌, ◌-◌, ◌*◌, ◌/◌, ◌%◌, ◌^◌, ◌<◌, ◌≤◌, ◌⊎◌, ⊎_elim, Bool, true, false, not, ◌&&◌, eqb, refl, sym, ◌∙◌, ap, arith, add-one}
use Rattle.std.specs.Int.{bit_at}
use Rattle.std.proofs.lemmas.Bool.{cases_eq, cases_Bool, and_parts, and_from, and_left, and_right}
use Rattle.std.proofs.lemmas.Nat.{one_shl}
use Rattle.std.proofs.lemmas.Nat.Bits.{bit_at_cat_low, bit_at_cat_high}
use Rattle.std.proofs.Math.Nat.{pow-suc, mul-le-mul_left}
use Rattle.std.proofs.Math.Pow.{pow_mono}
use mathlib.Core.Bool.{beq}
use mir.Val.{bool_byte}
use Rattle.svr_gate.specs.Numbers.{bit}
use Rattle.svr_gate.specs.Gates.{table_value}
use Rattle.svr_gate.specs.Keys.{all_below}

-- how many rows a table of at most four inputs has, as the code computes it
pub row_count : (k : ℕ) → k ≤ 4 → ((1 * 2 ^ k) % 2 ^ 16 ≡ 2 ^ k) × ((1 * 2 ^ k) % 2 ^ 16 ≤ 16)
row_count k h = let e = one_shl k 16 (omega arith) in (e, omega (arith, e, pow_mono {i = k} {j = 4} h))

pub row_count_wide : (k : ℕ) → k ≤ 4 → ((1 * 2 ^ k) % 2 ^ 32 ≡ 2 ^ k) × ((1 * 2 ^ k) % 2 ^ 32 ≤ 16)
row_count_wide k h = let e = one_shl k 32 (omega arith) in (e, omega (arith, e, pow_mono {i = k} {j = 4} h))

pub bool_byte_bit : (b : Bool) → bool_byte b ≡ bit b
bool_byte_bit true = refl
bool_byte_bit false = refl

pub beq_refl : (b : Bool) → beq b b ≡ true
beq_refl true = refl
beq_refl false = refl

-- a test of all numbers below n
pub all_below-at : (p : ℕ → Bool) (n i : ℕ) → all_below p n ≡ true → i < n → p i ≡ true
all_below-at p zero i h lt = absurd (omega arith)
all_below-at p (suc n) i h lt =
    let both = and_parts (all_below p n) (p n) h in
    ⊎_elim (λ (e : i ≡ n). ap p e ∙ both.1) (λ (e : i ≡ n → ⊥). all_below-at p n i both.0 (omega arith)) (cases_eq i n)

pub all_below-fails : (p : ℕ → Bool) (n i : ℕ) → p i ≡ false → i < n → all_below p n ≡ false
all_below-fails p zero i h lt = absurd (omega arith)
all_below-fails p (suc n) i h lt =
    ⊎_elim
    (λ (e : i ≡ n). and_right (all_below p n) (p n) (ap p (sym e) ∙ h))
    (λ (e : i ≡ n → ⊥). and_left (all_below p n) (p n) (all_below-fails p n i h (omega arith)))
    (cases_eq i n)

pub all_below-more : (p : ℕ → Bool) (n : ℕ) → all_below p n ≡ true → p n ≡ true → all_below p (n + 1) ≡ true
all_below-more p n h k = ap (all_below p) (add-one n) ∙ and_from (all_below p n) (p n) h k

-- a table of one row more
pub row_before : (t b r i : ℕ) → i < r → table_value (t + b * 2 ^ r) i ≡ table_value t i
row_before t b r i h = ap (λ n. eqb n 1) (ap (λ n. bit_at n i) (omega arith) ∙ bit_at_cat_low b r t i h)

pub row_last : (t b r : ℕ) → t < 2 ^ r → b < 2 → table_value (t + b * 2 ^ r) r ≡ eqb b 1
row_last t b r h k =
    let z : r - r ≡ 0 = omega arith in
    ap (λ n. eqb n 1) (ap (λ n. bit_at n r) (omega arith) ∙ bit_at_cat_high b r t r h (omega arith) ∙ ap (bit_at b) z ∙ omega arith)

-- how the code adds a row to a table
pub row_sum : (t b r : ℕ) → t < 2 ^ r → b < 2 → r < 16 → ((b * 2 ^ r) % 65536 ≡ b * 2 ^ r) × (t + (b * 2 ^ r) % 65536 < 65536)
row_sum t b r h k w =
    let one : b ≤ 1 = omega arith in
    let m : b * 2 ^ r ≤ 2 ^ r = omega (arith, mul-le-mul_left (2 ^ r) one) in
    let p : 2 ^ (r + 1) ≡ 2 ^ r * 2 = ap (λ k. 2 ^ k) (add-one r) ∙ pow-suc 2 r in
    let q : 2 ^ (r + 1) ≤ 65536 = pow_mono {i = r + 1} {j = 16} (omega arith) in
    let e : (b * 2 ^ r) % 65536 ≡ b * 2 ^ r = omega arith in
    (e, omega (arith, e, p, q))

-- the distance between a row and the one with its bits at j and behind it with_order_at, as the code computes it
pub row_step : (j : ℕ) → j < 3 → ((1 * 2 ^ j) % 2 ^ 32 ≡ 2 ^ j) × (2 ^ j ≤ 4)
row_step j h = (one_shl j 32 (omega arith), pow_mono {i = j} {j = 2} (omega arith))
