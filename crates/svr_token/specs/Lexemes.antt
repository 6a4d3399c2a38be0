-- The lexemes of a script, each as a predicate on all of its bytes (IEEE 1800-2017, clause 5).
use Rattle.std.specs.Prelude.{◌≡◌, ◌≢◌, ◌<◌, ◌≤◌, ◌⊎◌, ℕ, ◌%◌, ◌^◌, Bool, true, false, not, ◌==◌, ◌||◌, if◌then◌else◌, List, [], ◌∷◌, ◌++◌, filter, codes, Some, None}
use Rattle.std.specs.declared.option.Option.{Option}
use Rattle.std.specs.List.{list_all}
use Rattle.std.specs.Char.{is_digit}
use Rattle.std.specs.Str.Parse.{digits_value}
use Rattle.svr_token.specs.Bytes.{is_name_start, is_name_byte, is_digit_or_underscore, base_of}
use Rattle.svr_token.specs.Spellings.{word_text, mark_text, system_text, method_text}
use Rattle.svr_token.specs.declared.radix.Radix.{Radix}
use Rattle.svr_token.specs.declared.radix.Radix.TheVariants as r
use Rattle.svr_token.specs.declared.lexeme.Lexeme.{Lexeme}
use Rattle.svr_token.specs.declared.lexeme.Lexeme.TheVariants as l
use Rattle.svr_token.specs.declared.lexeme.Word.{Word}
use Rattle.svr_token.specs.declared.lexeme.Mark.{Mark}
use Rattle.svr_token.specs.declared.lexeme.SystemName.{SystemName}
use Rattle.svr_token.specs.declared.lexeme.NameKind.{NameKind}
use Rattle.svr_token.specs.declared.lexeme.NameKind.TheVariants as n
use Rattle.svr_token.specs.declared.token.Kind.{Kind}
use Rattle.svr_token.specs.declared.token.Kind.TheVariants as k

-- a name, or a reserved word (5.6)
abbrev pub IsName : List ℕ → Type 0
IsName [] = ⊥
IsName (b ∷ bs) = (is_name_start b ≡ true) × (list_all is_name_byte bs ≡ true)

-- digits in the base, with underscores after the first (5.7.1)
abbrev pub IsDigits : ℕ → List ℕ → Type 0
IsDigits base [] = ⊥
IsDigits base (b ∷ bs) = (is_digit b base ≡ true) × (list_all (is_digit_or_underscore base) bs ≡ true)

-- the number that digits write, their underscores left out
abbrev pub number_of : ℕ → List ℕ → ℕ
number_of base bs = digits_value base (filter (λ b. not (b == 95)) bs)

-- the radix that a letter stands for: b, o, d or h in either case
abbrev pub radix_of : ℕ → Option Radix
radix_of letter =
    if (letter == 98) || (letter == 66) then Some r.Binary
    else (if (letter == 111) || (letter == 79) then Some r.Octal
    else (if (letter == 100) || (letter == 68) then Some r.Decimal
    else (if (letter == 104) || (letter == 72) then Some r.Hexadecimal else None)))

-- a size of no bytes is none
abbrev pub IsSize : List ℕ → Type 0
IsSize [] = Unit {0}
IsSize (b ∷ bs) = IsDigits 10 (b ∷ bs)

abbrev pub IsSign : Bool → List ℕ → Type 0
IsSign false bytes = bytes ≡ []
IsSign true bytes = (bytes ≡ codes "s") ⊎ (bytes ≡ codes "S")

-- what stands before the digits of a based literal: its size, ', an s where it is signed, and the letter of its radix
pub record IsHead (size : List ℕ) (signed : Bool) (radix : Radix) (bytes : List ℕ) : Type 0 where
  pub sign : List ℕ
  pub letter : ℕ
  pub sized : IsSize size
  pub signs : IsSign signed sign
  pub names : radix_of letter ≡ Some radix
  pub whole : bytes ≡ size ++ (39 ∷ (sign ++ (letter ∷ [])))

-- an integer literal by its parts (5.7.1)
pub data Literal : Type 0 where
  decimal : (digits : List ℕ) → Literal
  based : (size : List ℕ) (signed : Bool) (radix : Radix) (digits : List ℕ) → Literal
  -- '0 or '1
  unbased : (bit : Bool) → Literal

-- the bytes write the literal
abbrev pub Writes : Literal → List ℕ → Type 0
Writes (decimal digits) bytes = IsDigits 10 digits × (bytes ≡ digits)
Writes (based size signed radix digits) bytes = (head : List ℕ) × IsHead size signed radix head × IsDigits (base_of radix) digits × (bytes ≡ head ++ digits)
Writes (unbased false) bytes = bytes ≡ codes "'0"
Writes (unbased true) bytes = bytes ≡ codes "'1"

-- its width in bits, where 0 stands for the width of the context
abbrev pub width_of : Literal → ℕ
width_of (decimal digits) = 32
width_of (based [] signed radix digits) = 32
width_of (based (b ∷ bs) signed radix digits) = number_of 10 (b ∷ bs)
width_of (unbased bit) = 0

abbrev pub is_signed : Literal → Bool
is_signed (decimal digits) = true
is_signed (based size signed radix digits) = signed
is_signed (unbased bit) = false

-- its value, as a pattern of so many bits
abbrev pub value_of : Literal → ℕ
value_of (decimal digits) = number_of 10 digits
value_of (based [] signed radix digits) = number_of (base_of radix) digits
value_of (based (b ∷ bs) signed radix digits) = number_of (base_of radix) digits % 2 ^ number_of 10 (b ∷ bs)
value_of (unbased false) = 0
value_of (unbased true) = 1

abbrev pub HasZeroSize : Literal → Type 0
HasZeroSize (decimal digits) = ⊥
HasZeroSize (based [] signed radix digits) = ⊥
HasZeroSize (based (b ∷ bs) signed radix digits) = number_of 10 (b ∷ bs) ≡ 0
HasZeroSize (unbased bit) = ⊥

-- a size over 64, or no size and a number of 2^32 or more
abbrev pub IsOverWide : Literal → Type 0
IsOverWide (decimal digits) = 2 ^ 32 ≤ number_of 10 digits
IsOverWide (based [] signed radix digits) = 2 ^ 32 ≤ number_of (base_of radix) digits
IsOverWide (based (b ∷ bs) signed radix digits) = 64 < number_of 10 (b ∷ bs)
IsOverWide (unbased bit) = ⊥

-- the bytes write this literal, and its size and number are within the limits
pub record IsLawfulLiteral (literal : Literal) (bytes : List ℕ) : Type 0 where
  pub writes : Writes literal bytes
  pub has_size : HasZeroSize literal → ⊥
  pub narrow : IsOverWide literal → ⊥

-- a name that is no reserved word, and none of a method that the grammar knows
pub record IsPlainName (bytes : List ℕ) : Type 0 where
  pub name : IsName bytes
  pub no_word : (word : Word) → bytes ≢ word_text word
  pub no_method : (kind : NameKind) → method_text kind ≢ Some bytes

abbrev pub SpellsName : NameKind → List ℕ → Type 0
SpellsName n.Plain bytes = IsPlainName bytes
SpellsName n.Sum bytes = bytes ≡ codes "sum"
SpellsName n.Product bytes = bytes ≡ codes "product"
SpellsName n.And bytes = bytes ≡ codes "and"
SpellsName n.Or bytes = bytes ≡ codes "or"
SpellsName n.Xor bytes = bytes ≡ codes "xor"
SpellsName n.Randomize bytes = bytes ≡ codes "randomize"
SpellsName n.RandMode bytes = bytes ≡ codes "rand_mode"
SpellsName n.ConstraintMode bytes = bytes ≡ codes "constraint_mode"

-- the bytes spell the lexeme
abbrev pub Spells : Lexeme → List ℕ → Type 0
Spells (l.Word word) bytes = bytes ≡ word_text word
Spells (l.Name kind) bytes = SpellsName kind bytes
Spells (l.System name) bytes = bytes ≡ system_text name
Spells (l.Literal value width signed) bytes = (literal : Literal) × IsLawfulLiteral literal bytes × (value_of literal ≡ value) × (width_of literal ≡ width) × (is_signed literal ≡ signed)
Spells (l.Mark mark) bytes = bytes ≡ mark_text mark

-- the bytes are a lexeme of the kind; a literal may be over the limits
abbrev pub IsLexeme : Kind → List ℕ → Type 0
IsLexeme k.Name bytes = IsName bytes
IsLexeme k.System bytes = (name : SystemName) × (bytes ≡ system_text name)
IsLexeme k.Literal bytes = (literal : Literal) × Writes literal bytes
IsLexeme k.Mark bytes = (mark : Mark) × (bytes ≡ mark_text mark)
