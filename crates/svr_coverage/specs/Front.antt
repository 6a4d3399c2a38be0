-- The cover groups that a text begins with, or why it begins with none.
use Rattle.std.specs.Prelude.{◌≡◌, ⊤, ℕ, List}
use Rattle.svr_token.specs.declared.token.Token.{Token}
use Rattle.svr_token.specs.Faults.{Fault, bad_byte, open_comment, bad_literal, literal_too_wide}
use Rattle.svr_token.specs.Tokens.{IsTokenized, IsFirstFault}
use Rattle.svr_refusal.specs.declared.place.Place.{Place}
use Rattle.svr_refusal.specs.declared.refusal.Refusal.{Refusal}
use Rattle.svr_refusal.specs.declared.refusal.Refusal.TheVariants as refusal
use Rattle.svr_refusal.specs.Numbers.{number_of}
use Rattle.svr_refusal.specs.Place.{place_of, token_start}
use Rattle.svr_cover_text.specs.declared.text.GroupsText.{GroupsText}
use Rattle.svr_cover_text.specs.Tokens.{WriteText, StopAt}
use Rattle.svr_coverage.specs.declared.fault.CoverageFault.{CoverageFault}
use Rattle.svr_coverage.specs.declared.fault.CoverageFault.TheVariants as fault

-- the text has these tokens, and they begin with these groups, and with no further one
pub record BeginsWith (text : List ℕ) (tokens : List Token) (groups : GroupsText) : Type 0 where
  pub tokenized : IsTokenized text tokens
  pub written : WriteText text tokens groups

-- the refusal of a lexical fault
abbrev pub lexical_refusal : Fault → Refusal
lexical_refusal bad_byte = refusal.BadByte
lexical_refusal open_comment = refusal.OpenComment
lexical_refusal bad_literal = refusal.BadLiteral
lexical_refusal literal_too_wide = refusal.LiteralTooWide

-- the text is refused under this number and at this place before its script is read
pub data IsRefused (text : List ℕ) (number : ℕ) (place : Place) : Type 0 where
  -- the first lexical fault
  by_lexeme : (fault : Fault) (at : ℕ) → IsFirstFault text fault at → number ≡ number_of (lexical_refusal fault) → place ≡ place_of text at → IsRefused text number place
  -- the first token with which the tokens begin no groups
  by_token : (tokens : List Token) (n : ℕ) → IsTokenized text tokens → StopAt text tokens n → number ≡ number_of refusal.NoGroups → place ≡ place_of text (token_start text tokens n) → IsRefused text number place

-- that is why, or there was no memory
abbrev pub HasNoFront : List ℕ → CoverageFault → Type 0
HasNoFront text (fault.Refused number place) = IsRefused text number place
HasNoFront text fault.NoMemory = ⊤
