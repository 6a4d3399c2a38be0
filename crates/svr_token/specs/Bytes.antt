-- The bytes of a script by what they may stand in, and a text cut where such bytes end.
use Rattle.std.specs.Prelude.{◌≡◌, ℕ, Bool, true, false, not, ◌==◌, ◌||◌, ◌&&◌, nat_le, List, [], ◌∷◌, ◌++◌}
use Rattle.std.specs.List.{list_all, list_any}
use Rattle.std.specs.Char.{is_digit}
use Rattle.svr_token.specs.declared.radix.Radix.{Radix}
use Rattle.svr_token.specs.declared.radix.Radix.TheVariants as r
use Rattle.svr_token.specs.declared.bytes.ByteClass.{ByteClass}
use Rattle.svr_token.specs.declared.bytes.ByteClass.TheVariants as c

-- space, tab, newline, form feed, carriage return (IEEE 1800-2017, 5.3)
abbrev pub is_blank : ℕ → Bool
is_blank b = list_any (λ g. b == g) (32 ∷ 9 ∷ 10 ∷ 12 ∷ 13 ∷ [])

-- a letter or an underscore
abbrev pub is_name_start : ℕ → Bool
is_name_start b = (nat_le 65 b && nat_le b 90) || (nat_le 97 b && nat_le b 122) || (b == 95)

-- a letter, a digit, an underscore or a dollar sign (5.6)
abbrev pub is_name_byte : ℕ → Bool
is_name_byte b = is_name_start b || (nat_le 48 b && nat_le b 57) || (b == 36)

-- the number of digits of a radix
abbrev pub base_of : Radix → ℕ
base_of r.Binary = 2
base_of r.Octal = 8
base_of r.Decimal = 10
base_of r.Hexadecimal = 16

-- a digit in the base, or an underscore
abbrev pub is_digit_or_underscore : ℕ → ℕ → Bool
is_digit_or_underscore base b = is_digit b base || (b == 95)

-- any byte but the end of a line
abbrev pub is_within_line : ℕ → Bool
is_within_line b = not (b == 10)

abbrev pub class_test : ByteClass → ℕ → Bool
class_test c.Name b = is_name_byte b
class_test (c.Digits radix) b = is_digit_or_underscore (base_of radix) b
class_test c.WithinLine b = is_within_line b

-- the text ends, or goes on with a byte that fails the test
abbrev pub Stops : (ℕ → Bool) → List ℕ → Type 0
Stops test [] = Unit {0}
Stops test (b ∷ bs) = test b ≡ false

-- the front is all bytes up to the first that fails the test
pub record Splits (test : ℕ → Bool) (text front rest : List ℕ) : Type 0 where
  pub whole : text ≡ front ++ rest
  pub passes : list_all test front ≡ true
  pub stops : Stops test rest
