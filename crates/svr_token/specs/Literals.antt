-- The literal that a text begins with, as the code holds it.
use Rattle.std.specs.Prelude.{◌≡◌, ◌||◌, ◌==◌, ℕ, Bool, false, List, [], ◌∷◌, ◌++◌}
use Rattle.std.specs.Char.{is_digit}
use Rattle.svr_token.specs.Bytes.{is_digit_or_underscore, Stops}
use Rattle.svr_token.specs.Lexemes.{IsDigits, IsSign, Literal, decimal, based, unbased, Writes}
use Rattle.svr_token.specs.Faults.{BeginsWithLiteral, LacksDigit}
use Rattle.svr_token.specs.declared.literal.Literal.{Literal as CodeLiteral}
use Rattle.svr_token.specs.declared.literal.Literal.TheVariants as c
use Rattle.svr_token.specs.declared.literal.FrontLiteral.{FrontLiteral}
use Rattle.svr_token.specs.declared.literal.FrontLiteral.TheVariants as f

abbrev pub literal_seen : CodeLiteral → Literal
literal_seen (c.Decimal digits) = decimal digits.now
literal_seen (c.Based size signed radix digits) = based size.now signed radix digits.now
literal_seen (c.Unbased bit) = unbased bit

-- no literal begins the text, nor the head of one
pub record HasNoLiteral (text : List ℕ) : Type 0 where
  pub none : (literal : Literal) (bytes rest : List ℕ) → Writes literal bytes → text ≡ bytes ++ rest → ⊥
  pub no_head : LacksDigit text → ⊥

pub record HasLiteral (text : List ℕ) (literal : Literal) (rest : List ℕ) : Type 0 where
  pub begins : BeginsWithLiteral text literal rest
  pub digits : LacksDigit text → ⊥

abbrev pub IsFrontLiteral : List ℕ → FrontLiteral → Type 0
IsFrontLiteral text f.Absent = HasNoLiteral text
IsFrontLiteral text f.LacksDigit = LacksDigit text
IsFrontLiteral text (f.Found literal rest) = HasLiteral text (literal_seen literal) rest.now

-- digits end before the rest; where there are none, the rest begins with none
abbrev pub DigitsEnd : ℕ → List ℕ → List ℕ → Type 0
DigitsEnd base [] rest = Stops (λ b. is_digit b base) rest
DigitsEnd base (b ∷ bs) rest = IsDigits base (b ∷ bs) × Stops (is_digit_or_underscore base) rest

pub record SplitsDigits (base : ℕ) (text front rest : List ℕ) : Type 0 where
  pub whole : text ≡ front ++ rest
  pub ends : DigitsEnd base front rest

abbrev pub is_sign : ℕ → Bool
is_sign b = (b == 115) || (b == 83)

pub record SplitsSign (text : List ℕ) (signed : Bool) (rest : List ℕ) : Type 0 where
  pub sign : List ℕ
  pub signs : IsSign signed sign
  pub whole : text ≡ sign ++ rest
  pub stops : signed ≡ false → Stops is_sign rest
