-- What is said of a text of `randsequence`, with a seed and so many lines, and what is written of it.
use Rattle.std.specs.Prelude.{◌≡◌, ◌⊎◌, ⊤, ℕ, Bool, true, false, List, []}
use Rattle.std.specs.declared.option.Option.{Option}
use Rattle.std.specs.Io.KnownBytes.{Appends, Keeps}
use Rattle.svr_edge.specs.Causes.{Rose}
use Rattle.svr_edge.specs.Known.{AppendsFront}
use Rattle.svr_token.specs.declared.token.Token.{Token}
use Rattle.svr_token.specs.Faults.{Fault, bad_byte, open_comment, bad_literal, literal_too_wide}
use Rattle.svr_token.specs.Tokens.{IsTokenized, IsFirstFault}
use Rattle.svr_token.specs.Names.{name_at}
use Rattle.svr_refusal.specs.declared.place.Place.{Place}
use Rattle.svr_refusal.specs.declared.refusal.Refusal.{Refusal}
use Rattle.svr_refusal.specs.declared.refusal.Refusal.TheVariants as refusal
use Rattle.svr_refusal.specs.Numbers.{number_of}
use Rattle.svr_refusal.specs.Place.{place_of, token_start}
use Rattle.svr_seq.specs.SeqTerm.{SeqTerm}
use Rattle.svr_seq_text.specs.Tokens.{StopAt}
use Rattle.svr_seq_made.specs.declared.fault.SeqFault.TheVariants as e
use Rattle.svr_seq_made.specs.Reading.{IsSeqOf, IsRefusedText}
use Rattle.svr_seq_lines.specs.declared.end.End.{End}
use Rattle.svr_seq_lines.specs.declared.end.End.TheVariants as end
use Rattle.svr_seq_lines.specs.declared.end.Stop.{Stop}
use Rattle.svr_seq_lines.specs.declared.end.Stop.TheVariants.{NoMemory, WriteFault}
use Rattle.svr_seq_lines.specs.Lines.{lines_from, some_long}

-- ---- of which text

-- the refusal of a lexical fault
abbrev pub lexical_refusal : Fault → Refusal
lexical_refusal bad_byte = refusal.BadByte
lexical_refusal open_comment = refusal.OpenComment
lexical_refusal bad_literal = refusal.BadLiteral
lexical_refusal literal_too_wide = refusal.LiteralTooWide

-- the text is refused under this number and at this place
pub data IsRefused (text : List ℕ) (number : ℕ) (place : Place) : Type 0 where
  -- the first lexical fault
  by_lexeme : (fault : Fault) (at : ℕ) → IsFirstFault text fault at → number ≡ number_of (lexical_refusal fault) → place ≡ place_of text at → IsRefused text number place
  -- the first token with which the tokens begin no `randsequence`
  by_token : (tokens : List Token) (n : ℕ) → IsTokenized text tokens → StopAt text tokens n → number ≡ number_of refusal.NoSequence → place ≡ place_of text (token_start text tokens n) → IsRefused text number place
  -- the first refusal, by its place and at one place by its number, of a `randsequence` that was read
  by_meaning : (tokens : List Token) (why : Refusal) (n : ℕ) → IsTokenized text tokens → IsRefusedText text tokens (e.Refused why n) → number ≡ number_of why → place ≡ place_of text (token_start text tokens n) → IsRefused text number place

-- the text has these tokens, nothing in it is refused, and these are its productions
pub record HasSeq (text : List ℕ) (tokens : List Token) (seq : SeqTerm) : Type 0 where
  pub tokenized : IsTokenized text tokens
  pub accepted : IsSeqOf text tokens seq

-- The text is accepted, and so many lines of it are this, under the words of a seed. The truth tells whether they end with one that needs too many units.
pub record HasLines (text : List ℕ) (seed count : ℕ) (limited : Bool) (printed : List ℕ) : Type 0 where
  pub tokens : List Token
  pub seq : SeqTerm
  pub read : HasSeq text tokens seq
  pub ended : some_long (record { name = name_at text tokens; seq = seq; seed = seed }) 1 count ≡ limited
  pub lines : printed ≡ lines_from (record { name = name_at text tokens; seq = seq; seed = seed }) 1 count

-- ---- what is said

-- so the text ends, and this is printed of it
abbrev pub Says : List ℕ → ℕ → ℕ → End → List ℕ → Type 0
Says text seed count end.Whole printed = HasLines text seed count false printed
Says text seed count end.Limited printed = HasLines text seed count true printed
Says text seed count (end.Refused number place) printed = IsRefused text number place × (printed ≡ [])

-- what is written with it
abbrev pub Tells : List ℕ → ℕ → ℕ → End → Option (List ℕ) → Option (List ℕ) → Type 0
Tells text seed count said old new = (printed : List ℕ) × Says text seed count said printed × Appends old new printed

-- ---- why writing stops

-- a front of the lines was written
abbrev pub TellsFront : List ℕ → ℕ → ℕ → Option (List ℕ) → Option (List ℕ) → Type 0
TellsFront text seed count old new = (limited : Bool) × (printed : List ℕ) × HasLines text seed count limited printed × AppendsFront old new printed

-- want of memory, or a sink that failed
abbrev pub IsCause : Stop → ℕ → ℕ → Type 0
IsCause NoMemory was now = ⊤
IsCause WriteFault was now = Rose was now

-- for want of memory nothing or a front of the lines was written, where the sink failed a front
abbrev pub Stops : List ℕ → ℕ → ℕ → Stop → Option (List ℕ) → ℕ → Option (List ℕ) → ℕ → Type 0
Stops text seed count NoMemory old was new now = Keeps old new ⊎ TellsFront text seed count old new
Stops text seed count WriteFault old was new now = TellsFront text seed count old new × Rose was now

-- ---- what follows

-- no text is accepted and refused
abbrev pub AcceptedTextsAreNotRefused : Type 0
AcceptedTextsAreNotRefused = (text : List ℕ) (tokens : List Token) (seq : SeqTerm) (number : ℕ) (place : Place) → HasSeq text tokens seq → IsRefused text number place → ⊥

-- a text has one end and one list of lines
abbrev pub LinesAreOne : Type 0
LinesAreOne = (text : List ℕ) (seed count : ℕ) (a b : Bool) (p q : List ℕ) → HasLines text seed count a p → HasLines text seed count b q → (a ≡ b) × (p ≡ q)
