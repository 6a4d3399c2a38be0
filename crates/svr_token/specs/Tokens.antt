-- A text as gaps and longest lexemes in turn.
use Rattle.std.specs.Prelude.{◌≡◌, ◌≤◌, ℕ, ◌+◌, List, [], ◌∷◌, ◌++◌, length, slice_range}
use Rattle.svr_token.specs.Gaps.{BeginsWithGap}
use Rattle.svr_token.specs.Faults.{Fault, HasLowestFault, IsSound}
use Rattle.svr_token.specs.Lexemes.{IsLexeme, Spells}
use Rattle.svr_token.specs.declared.lexeme.Lexeme.{Lexeme}
use Rattle.svr_token.specs.declared.token.Kind.{Kind}
use Rattle.svr_token.specs.declared.token.Token.{Token}

-- the text begins with this lexeme: with no gap, and with no longer lexeme
pub record BeginsWithLexeme (text : List ℕ) (kind : Kind) (lexeme rest : List ℕ) : Type 0 where
  pub whole : text ≡ lexeme ++ rest
  pub is_lexeme : IsLexeme kind lexeme
  pub no_gap : (gap behind : List ℕ) → BeginsWithGap text gap behind → ⊥
  pub longest : (other : Kind) (front more : List ℕ) → IsLexeme other front → text ≡ front ++ more → length front ≤ length lexeme

-- the token has this kind, and stands from this place on over so many bytes
pub record IsToken (token : Token) (sort : Kind) (place size : ℕ) : Type 0 where
  pub kind : token.kind ≡ sort
  pub start : token.start ≡ place
  pub stop : token.stop ≡ place + size

-- From the place `at`, where `text` begins, to the place `end`, where `rest` begins, stand gaps and
-- longest lexemes in turn. The tokens are the lexemes. No fault stands where one of them begins.
pub data Tokenizes : (at : ℕ) (text : List ℕ) (tokens : List Token) (end : ℕ) (rest : List ℕ) → Type 0 where
  done : {at : ℕ} {text : List ℕ} → Tokenizes at text [] at text
  past_gap : {at : ℕ} {text : List ℕ} {tokens : List Token} {end : ℕ} {rest : List ℕ} (space behind : List ℕ)
      → IsSound text → BeginsWithGap text space behind
      → Tokenizes (at + length space) behind tokens end rest → Tokenizes at text tokens end rest
  past_lexeme : {at : ℕ} {text : List ℕ} {tokens : List Token} {end : ℕ} {rest : List ℕ} (token : Token) (kind : Kind) (bytes behind : List ℕ)
      → IsSound text → BeginsWithLexeme text kind bytes behind → IsToken token kind at (length bytes)
      → Tokenizes (at + length bytes) behind tokens end rest → Tokenizes at text (token ∷ tokens) end rest

-- the tokens are those of the text
abbrev pub IsTokenized : List ℕ → List Token → Type 0
IsTokenized text tokens = Tokenizes 0 text tokens (length text) []

-- the text is tokenized up to this place, where the fault stands
pub record IsFirstFault (text : List ℕ) (fault : Fault) (place : ℕ) : Type 0 where
  pub tokens : List Token
  pub rest : List ℕ
  pub front : Tokenizes 0 text tokens place rest
  pub here : HasLowestFault fault rest

-- the bytes of a token
abbrev pub token_bytes : List ℕ → Token → List ℕ
token_bytes text token = slice_range text token.start token.stop

-- the token stands in the text, and spells the lexeme
pub record IsTokenOf (text : List ℕ) (token : Token) (lexeme : Lexeme) : Type 0 where
  pub ordered : token.start ≤ token.stop
  pub within : token.stop ≤ length text
  pub spells : Spells lexeme (token_bytes text token)
