-- The faults of a text at a place, each as a predicate on the text from that place on.
use Rattle.std.specs.Prelude.{◌≡◌, ◌≢◌, ◌<◌, ◌≤◌, ◌⊎◌, ℕ, Bool, false, List, [], ◌∷◌, ◌++◌, length, codes}
use Rattle.std.specs.Char.{is_digit}
use Rattle.svr_token.specs.Bytes.{is_blank, is_name_byte, base_of, Stops}
use Rattle.svr_token.specs.Lexemes.{IsName, IsHead, Literal, Writes, HasZeroSize, IsOverWide, IsLexeme}
use Rattle.svr_token.specs.Spellings.{system_text}
use Rattle.svr_token.specs.declared.radix.Radix.{Radix}
use Rattle.svr_token.specs.declared.token.Kind.{Kind}
use Rattle.svr_token.specs.declared.lexeme.SystemName.{SystemName}

-- no lexeme begins with the byte, and no gap (a comment begins as the mark `/` does)
pub record BeginsNothing (byte : ℕ) : Type 0 where
  pub no_blank : is_blank byte ≡ false
  pub no_lexeme : (kind : Kind) (bytes : List ℕ) → IsLexeme kind (byte ∷ bytes) → ⊥

-- `$` and a name directly behind it, which together are no system name
pub record BeginsUnknownSystemName (text : List ℕ) : Type 0 where
  pub name : List ℕ
  pub rest : List ℕ
  pub whole : text ≡ 36 ∷ (name ++ rest)
  pub is_name : IsName name
  pub stops : Stops is_name_byte rest
  pub unknown : (system : SystemName) → 36 ∷ name ≢ system_text system

abbrev pub IsBadByte : List ℕ → Type 0
IsBadByte [] = ⊥
IsBadByte (b ∷ bs) = BeginsNothing b ⊎ BeginsUnknownSystemName (b ∷ bs)

-- `/*` without its `*/`
pub record IsOpenComment (text : List ℕ) : Type 0 where
  pub rest : List ℕ
  pub opens : text ≡ codes "/*" ++ rest
  pub stays : (body more : List ℕ) → rest ≢ body ++ (codes "*/" ++ more)

-- the text begins with this literal, and with no longer one
pub record BeginsWithLiteral (text : List ℕ) (literal : Literal) (rest : List ℕ) : Type 0 where
  pub bytes : List ℕ
  pub writes : Writes literal bytes
  pub whole : text ≡ bytes ++ rest
  pub longest : (other : Literal) (front more : List ℕ) → Writes other front → text ≡ front ++ more → length front ≤ length bytes

-- the text begins with the head of a based literal
pub record BeginsWithHead (text size : List ℕ) (signed : Bool) (radix : Radix) (rest : List ℕ) : Type 0 where
  pub head : List ℕ
  pub is_head : IsHead size signed radix head
  pub whole : text ≡ head ++ rest

-- the letter of a radix, and no digit of it behind
pub record LacksDigit (text : List ℕ) : Type 0 where
  pub size : List ℕ
  pub signed : Bool
  pub radix : Radix
  pub rest : List ℕ
  pub begins : BeginsWithHead text size signed radix rest
  pub stops : Stops (λ b. is_digit b (base_of radix)) rest

-- a literal of size 0, or one that a letter, a digit, `_` or `$` directly follows
pub record IsIllFormed (text : List ℕ) : Type 0 where
  pub literal : Literal
  pub rest : List ℕ
  pub begins : BeginsWithLiteral text literal rest
  pub ill : HasZeroSize literal ⊎ (Stops is_name_byte rest → ⊥)

abbrev pub IsBadLiteral : List ℕ → Type 0
IsBadLiteral text = LacksDigit text ⊎ IsIllFormed text

-- a literal with a size over 64, or with no size and of 2^32 or more
pub record IsTooWide (text : List ℕ) : Type 0 where
  pub literal : Literal
  pub rest : List ℕ
  pub begins : BeginsWithLiteral text literal rest
  pub wide : IsOverWide literal

-- the four faults
pub data Fault : Type 0 where
  bad_byte : Fault
  open_comment : Fault
  bad_literal : Fault
  literal_too_wide : Fault

abbrev pub number_of_fault : Fault → ℕ
number_of_fault bad_byte = 1
number_of_fault open_comment = 2
number_of_fault bad_literal = 3
number_of_fault literal_too_wide = 4

-- the fault stands where this text begins
abbrev pub HasFault : Fault → List ℕ → Type 0
HasFault bad_byte text = IsBadByte text
HasFault open_comment text = IsOpenComment text
HasFault bad_literal text = IsBadLiteral text
HasFault literal_too_wide text = IsTooWide text

abbrev pub IsSound : List ℕ → Type 0
IsSound text = (fault : Fault) → HasFault fault text → ⊥

-- the fault stands there, and none of a lower number
pub record HasLowestFault (fault : Fault) (text : List ℕ) : Type 0 where
  pub stands : HasFault fault text
  pub lowest : (other : Fault) → number_of_fault other < number_of_fault fault → HasFault other text → ⊥
