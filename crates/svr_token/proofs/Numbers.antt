-- Numbers in digits with underscores.
use Rattle.std.proofs.Common.{◌≡◌, ◌≤◌, ◌<◌, ℕ, suc, ◌+◌, ◌*◌, ◌%◌, ◌^◌, List, [], ◌∷◌, length, drop, Bool, true, false, not, ◌==◌, ◌-◌, refl, sym, ap, ◌∙◌, subst, arith, slice_index, le_refl, filter}
use Rattle.std.proofs.Math.Nat.{mul-le-mul_left, add-mod}
use Rattle.std.proofs.Math.Pow.{mod-mod-pow}
use Rattle.std.proofs.Math.Seq.{drop-cons}
use Rattle.std.proofs.lemmas.Nat.{mul-mod_first}
use Rattle.std.proofs.lemmas.Bool.Decides.{nat_tests}
use Rattle.std.specs.Char.{digit_value}
use Rattle.std.specs.Str.Parse.{digits_value_after}
use Rattle.svr_token.specs.Bytes.{base_of}
use Rattle.svr_token.specs.Lexemes.{number_of}
use Rattle.svr_token.specs.declared.radix.Radix.{Radix}
use Rattle.svr_token.specs.declared.radix.Radix.TheVariants as r

abbrev pub is_kept : ℕ → Bool
is_kept b = not (b == 95)

kept : (b : ℕ) → (b ≡ 95 → ⊥) → is_kept b ≡ true
kept b apart = grind (arith, nat_tests)

left_out : (b : ℕ) → b ≡ 95 → is_kept b ≡ false
left_out b e = grind (arith, nat_tests)

filter_kept : (b : ℕ) (bs : List ℕ) → is_kept b ≡ true → filter is_kept (b ∷ bs) ≡ b ∷ filter is_kept bs
filter_kept b bs p = rw p refl

filter_left : (b : ℕ) (bs : List ℕ) → is_kept b ≡ false → filter is_kept (b ∷ bs) ≡ filter is_kept bs
filter_left b bs p = rw p refl

-- the next byte is taken in
pub one_kept : (digits : List ℕ) (i : ℕ) → i < length digits → (slice_index digits i ≡ 95 → ⊥) → filter is_kept (drop i digits) ≡ slice_index digits i ∷ filter is_kept (drop (i + 1) digits)
one_kept digits i less apart =
    let same : suc i ≡ i + 1 = omega arith in
    ap (filter is_kept) (drop-cons digits i 0 less) ∙ filter_kept (slice_index digits i) (drop (suc i) digits) (kept _ apart) ∙ ap (λ n. slice_index digits i ∷ filter is_kept (drop n digits)) same

pub one_left : (digits : List ℕ) (i : ℕ) → i < length digits → slice_index digits i ≡ 95 → filter is_kept (drop i digits) ≡ filter is_kept (drop (i + 1) digits)
one_left digits i less is =
    let same : suc i ≡ i + 1 = omega arith in
    ap (filter is_kept) (drop-cons digits i 0 less) ∙ filter_left (slice_index digits i) (drop (suc i) digits) (left_out _ is) ∙ ap (λ n. filter is_kept (drop n digits)) same

pub base_positive : (radix : Radix) → 1 ≤ base_of radix
base_positive r.Binary = omega arith
base_positive r.Octal = omega arith
base_positive r.Decimal = omega arith
base_positive r.Hexadecimal = omega arith

-- more digits make no lesser number
value_grows : (base n : ℕ) (ds : List ℕ) → 1 ≤ base → n ≤ digits_value_after base n ds
value_grows base n [] some = le_refl n
value_grows base n (d ∷ ds) some =
    let more : n * base + digit_value d ≤ digits_value_after base (n * base + digit_value d) ds = value_grows base (n * base + digit_value d) ds some in
    let times : n * 1 ≤ n * base = mul-le-mul_left n some in
    omega arith

-- a number that is too great already stays so
pub stays_great : (radix : Radix) (n i v most : ℕ) (digits : List ℕ) → digits_value_after (base_of radix) n (filter is_kept (drop i digits)) ≡ number_of (base_of radix) digits → i < length digits
    → (slice_index digits i ≡ 95 → ⊥) → v ≤ n * base_of radix + digit_value (slice_index digits i) → (v < most → ⊥) → most ≤ number_of (base_of radix) digits
stays_great radix n i v most digits value less apart within great =
    let step : digits_value_after (base_of radix) (n * base_of radix + digit_value (slice_index digits i)) (filter is_kept (drop (i + 1) digits)) ≡ number_of (base_of radix) digits =
    ap (digits_value_after (base_of radix) n) (sym (one_kept digits i less apart)) ∙ value in
    let grown : n * base_of radix + digit_value (slice_index digits i) ≤ number_of (base_of radix) digits =
    subst (λ x. n * base_of radix + digit_value (slice_index digits i) ≤ x) step
    (value_grows (base_of radix) (n * base_of radix + digit_value (slice_index digits i)) (filter is_kept (drop (i + 1) digits)) (base_positive radix)) in
    let big : most ≤ v = omega arith in
    omega arith

-- only the rest of a division counts for the rest of what follows
value_mod : (base a b : ℕ) (m : ℕ) (ds : List ℕ) → a % m ≡ b % m → digits_value_after base a ds % m ≡ digits_value_after base b ds % m
value_mod base a b m [] e = e
value_mod base a b m (d ∷ ds) e = value_mod base (a * base + digit_value d) (b * base + digit_value d) m ds
    (add-mod (a * base) (digit_value d) m
    ∙ ap (λ x. (x + digit_value d % m) % m) (sym (mul-mod_first a base m) ∙ ap (λ x. (x * base) % m) e ∙ mul-mod_first b base m)
    ∙ sym (add-mod (b * base) (digit_value d) m))

mod_twice : (a m : ℕ) → a % m % m ≡ a % m
mod_twice a m = ap (λ x. x % m) (sym (one (a % m))) ∙ mul-mod_first a 1 m ∙ ap (λ x. x % m) (one a)
  where
    one : (a : ℕ) → a * 1 ≡ a
    one a = omega arith

-- the next digit is taken in, and the number cut
pub one_more_mod : (base n i next : ℕ) (digits : List ℕ) → digits_value_after base n (filter is_kept (drop i digits)) % 2 ^ 64 ≡ number_of base digits % 2 ^ 64 → i < length digits
    → (slice_index digits i ≡ 95 → ⊥) → next ≡ ((n * base) % 2 ^ 64 + digit_value (slice_index digits i)) % 2 ^ 64
    → digits_value_after base next (filter is_kept (drop (i + 1) digits)) % 2 ^ 64 ≡ number_of base digits % 2 ^ 64
one_more_mod base n i next digits value less apart is =
    let d = digit_value (slice_index digits i) in
    let cut : next % 2 ^ 64 ≡ (n * base + d) % 2 ^ 64 =
    ap (λ x. x % 2 ^ 64) is ∙ mod_twice ((n * base) % 2 ^ 64 + d) (2 ^ 64)
    ∙ add-mod ((n * base) % 2 ^ 64) d (2 ^ 64) ∙ ap (λ x. (x + d % 2 ^ 64) % 2 ^ 64) (mod_twice (n * base) (2 ^ 64)) ∙ sym (add-mod (n * base) d (2 ^ 64)) in
    value_mod base next (n * base + d) (2 ^ 64) (filter is_kept (drop (i + 1) digits)) cut
    ∙ ap (λ x. digits_value_after base n x % 2 ^ 64) (sym (one_kept digits i less apart)) ∙ value

pub one_left_mod : (base n i : ℕ) (digits : List ℕ) → digits_value_after base n (filter is_kept (drop i digits)) % 2 ^ 64 ≡ number_of base digits % 2 ^ 64 → i < length digits
    → slice_index digits i ≡ 95 → digits_value_after base n (filter is_kept (drop (i + 1) digits)) % 2 ^ 64 ≡ number_of base digits % 2 ^ 64
one_left_mod base n i digits value less is = ap (λ x. digits_value_after base n x % 2 ^ 64) (sym (one_left digits i less is)) ∙ value

-- a shorter rest after a longer one
pub cut_twice : (n w : ℕ) → w ≤ 64 → n % 2 ^ 64 % 2 ^ w ≡ n % 2 ^ w
cut_twice n w less =
    let sum : (64 - w) + w ≡ 64 = omega arith in
    subst (λ k. n % 2 ^ k % 2 ^ w ≡ n % 2 ^ w) sum (mod-mod-pow n (64 - w) w)

pub times_within : (n a b d : ℕ) → a ≡ b → n * a ≤ n * b + d
times_within n a b d e = rw e (omega arith)

pub sum_within : (n a b d v x : ℕ) → a ≡ b → v ≡ n * a → x ≡ d → v + x ≤ n * b + d
sum_within n a b d v x e f g = rw (f, g, e) (omega arith)
