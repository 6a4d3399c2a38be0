-- The design of a text within the limit of length, or why the text is refused.
use Rattle.std.specs.Prelude.{◌≡◌, ℕ, List}
use Rattle.svr_token.specs.declared.token.Token.{Token}
use Rattle.svr_token.specs.Faults.{Fault, bad_byte, open_comment, bad_literal, literal_too_wide}
use Rattle.svr_token.specs.Tokens.{IsTokenized, IsFirstFault}
use Rattle.svr_token.specs.Names.{name_at}
use Rattle.svr_tree.specs.ScriptTree.{ScriptTree}
use Rattle.svr_parse.specs.Parse.{IsTreeOf, IsUnexpectedOf, IsTooDeepOf}
use Rattle.svr_elab.specs.Promise as elaboration
use Rattle.svr_elaborate.specs.Elaborated.{IsDesignOf}
use Rattle.svr_refusal.specs.declared.refusal.Refusal.{Refusal}
use Rattle.svr_refusal.specs.declared.refusal.Refusal.TheVariants as refusal
use Rattle.svr_refusal.specs.Place.{place_of, token_start}
use Rattle.svr_typed.specs.StmtTerm.{DesignTerm}
use Rattle.svr_status.specs.Lines.{refused_as, refused_at}

-- the refusal of a lexical fault
abbrev pub lexical_refusal : Fault → Refusal
lexical_refusal bad_byte = refusal.BadByte
lexical_refusal open_comment = refusal.OpenComment
lexical_refusal bad_literal = refusal.BadLiteral
lexical_refusal literal_too_wide = refusal.LiteralTooWide

-- the text was read, nothing in it is refused, and this is the design of its script
pub record HasDesign (text : List ℕ) (design : DesignTerm) : Type 0 where
  pub tokens : List Token
  pub tree : ScriptTree
  pub tokenized : IsTokenized text tokens
  pub reading : IsTreeOf text tokens tree
  pub elaborated : IsDesignOf (name_at text tokens) tree design

-- the text is refused with this line
pub data IsRefused (text line : List ℕ) : Type 0 where
  -- the first lexical fault
  by_lexeme : (fault : Fault) (at : ℕ) → IsFirstFault text fault at → line ≡ refused_at (place_of text at) (lexical_refusal fault) → IsRefused text line
  -- the first token with which no script goes on
  by_token : (tokens : List Token) (n : ℕ) → IsTokenized text tokens → IsUnexpectedOf text tokens n → line ≡ refused_at (place_of text (token_start text tokens n)) refusal.Unexpected → IsRefused text line
  -- the first token with which only scripts above the limit of height go on
  by_height : (tokens : List Token) (n : ℕ) → IsTokenized text tokens → IsTooDeepOf text tokens n → line ≡ refused_at (place_of text (token_start text tokens n)) refusal.TooDeep → IsRefused text line
  -- the first refusal, by its place and at one place by its number, of a script that was read
  by_meaning : (tokens : List Token) (tree : ScriptTree) (number n : ℕ) → IsTokenized text tokens → IsTreeOf text tokens tree → elaboration.IsRefused (name_at text tokens) tree number n → line ≡ refused_as (place_of text (token_start text tokens n)) number → IsRefused text line
