-- Operations on numbers of w bits, as whole numbers modulo 2^w (IEEE 1800-2017, clauses 6.9.1 and 11.4).
-- Every operation has its one spelling here; values and circuits cite it.
use Rattle.std.specs.Prelude.{◌==◌, ℕ, suc, ◌+◌, ◌-◌, ◌*◌, ◌/◌, ◌%◌, ◌^◌, ◌<◌, ◌≤◌, Bool, cond, nat_lt, ℤ, pos, negsuc, ◌-ℤ◌, neg_ℤ, int_div, int_rem, int_lt, bit_and, bit_or, bit_xor}
use Rattle.std.specs.Int.{int_shr}

-- a number and its width
pub record Word : Type 0 where
  pub value : ℕ
  pub width : ℕ

-- 1 to 64 bits hold the number
abbrev pub IsWord : ℕ → ℕ → Type 0
IsWord value width = (1 ≤ width) × (width ≤ 64) × (value < 2 ^ width)

-- a whole number modulo 2^w (6.9.1); negsuc n is the number -(n + 1)
abbrev pub residue : ℕ → ℤ → ℕ
residue w (pos n) = n % 2 ^ w
residue w (negsuc n) = 2 ^ w - suc (n % 2 ^ w)

-- what w bits read as in two's complement, where the highest is the sign (6.11.3)
abbrev pub signed_of : ℕ → ℕ → ℤ
signed_of w n = cond (nat_lt n (2 ^ (w - 1))) (pos n) (negsuc (2 ^ w - suc n))

-- what w bits read as with or without a sign (11.8.1)
abbrev pub read_of : Bool → ℕ → ℕ → ℤ
read_of signed w n = cond signed (signed_of w n) (pos n)

-- the low w bits (10.7, truncation)
abbrev pub cut_of : ℕ → ℕ → ℕ
cut_of w n = n % 2 ^ w

-- w bits from fewer, filled with copies of the sign bit or with zeros (11.8.2)
abbrev pub extend_of : Bool → ℕ → ℕ → ℕ → ℕ
extend_of signed w from n = residue w (read_of signed from n)

-- m + n (11.4.3)
abbrev pub add_of : ℕ → ℕ → ℕ → ℕ
add_of w m n = (m + n) % 2 ^ w

-- m - n (11.4.3)
abbrev pub sub_of : ℕ → ℕ → ℕ → ℕ
sub_of w m n = residue w (pos m -ℤ pos n)

-- m * n (11.4.3)
abbrev pub mul_of : ℕ → ℕ → ℕ → ℕ
mul_of w m n = (m * n) % 2 ^ w

-- -n (11.4.3)
abbrev pub neg_of : ℕ → ℕ → ℕ
neg_of w n = residue w (neg_ℤ (pos n))

-- m / n, truncated towards zero (11.4.3); 0 at a divisor of 0, where the standard has x
abbrev pub div_of : Bool → ℕ → ℕ → ℕ → ℕ
div_of signed w m n = cond (n == 0) 0 (residue w (int_div (read_of signed w m) (read_of signed w n)))

-- m % n, with the sign of m (11.4.3); 0 at a divisor of 0, where the standard has x
abbrev pub rem_of : Bool → ℕ → ℕ → ℕ → ℕ
rem_of signed w m n = cond (n == 0) 0 (residue w (int_rem (read_of signed w m) (read_of signed w n)))

-- ~n (11.4.8)
abbrev pub not_of : ℕ → ℕ → ℕ
not_of w n = 2 ^ w - 1 - n

-- m & n (11.4.8)
abbrev pub and_of : ℕ → ℕ → ℕ
and_of m n = bit_and m n

-- m | n (11.4.8)
abbrev pub or_of : ℕ → ℕ → ℕ
or_of m n = bit_or m n

-- m ^ n (11.4.8)
abbrev pub xor_of : ℕ → ℕ → ℕ
xor_of m n = bit_xor m n

-- n << by, also n <<< by (11.4.10)
abbrev pub shl_of : ℕ → ℕ → ℕ → ℕ
shl_of w n by = (n * 2 ^ by) % 2 ^ w

-- n >> by (11.4.10)
abbrev pub shr_of : ℕ → ℕ → ℕ
shr_of n by = n / 2 ^ by

-- n >>> by where the result is signed: filled with copies of the sign bit (11.4.10)
abbrev pub sar_of : ℕ → ℕ → ℕ → ℕ
sar_of w n by = residue w (int_shr (signed_of w n) by)

-- m < n (11.4.4)
abbrev pub less_of : Bool → ℕ → ℕ → ℕ → Bool
less_of signed w m n = int_lt (read_of signed w m) (read_of signed w n)
