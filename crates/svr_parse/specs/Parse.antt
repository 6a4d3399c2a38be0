-- The answers of the parser.
use Rattle.std.specs.Prelude.{◌≡◌, ℕ, List}
use Rattle.svr_limits.specs.declared.limit.TheConstants.{HEIGHT_LIMIT}
use Rattle.svr_token.specs.declared.Lexeme.{Lexeme}
use Rattle.svr_token.specs.declared.token.Token.{Token}
use Rattle.svr_tree.specs.ScriptTree.{ScriptTree}
use Rattle.svr_tree.specs.Reading.{IsReading}
use Rattle.svr_tree.specs.Tokens.{numbered}
use Rattle.svr_reader.specs.Spelled.{AreSpelled}
use Rattle.svr_reader.specs.Fronts.{IsUnexpected, IsTooDeep}
use Rattle.svr_parse.specs.declared.fault.ParseFault.{ParseFault}
use Rattle.svr_parse.specs.declared.fault.ParseFault.TheVariants as e

-- the tree reads the tokens of the text, and is the one within the limit that does
pub record IsTreeOf (text : List ℕ) (tokens : List Token) (tree : ScriptTree) : Type 0 where
  pub lexemes : List Lexeme
  pub spelled : AreSpelled text tokens lexemes
  pub reading : IsReading HEIGHT_LIMIT (numbered 0 lexemes) tree
  pub only : (other : ScriptTree) → IsReading HEIGHT_LIMIT (numbered 0 lexemes) other → other ≡ tree

-- the token of this number goes on with no script, and those before it go on
pub record IsUnexpectedOf (text : List ℕ) (tokens : List Token) (token : ℕ) : Type 0 where
  pub lexemes : List Lexeme
  pub spelled : AreSpelled text tokens lexemes
  pub place : IsUnexpected IsReading HEIGHT_LIMIT (numbered 0 lexemes) token

-- the token of this number goes on with scripts above the limit alone, and those before it with one within it
pub record IsTooDeepOf (text : List ℕ) (tokens : List Token) (token : ℕ) : Type 0 where
  pub lexemes : List Lexeme
  pub spelled : AreSpelled text tokens lexemes
  pub place : IsTooDeep IsReading HEIGHT_LIMIT (numbered 0 lexemes) token

-- why the tokens of the text have no tree
abbrev pub IsFaultOf : List ℕ → List Token → ParseFault → Type 0
IsFaultOf text tokens (e.Unexpected token) = IsUnexpectedOf text tokens token
IsFaultOf text tokens (e.TooDeep token) = IsTooDeepOf text tokens token
IsFaultOf text tokens e.NoMemory = Unit {0}

-- the same of a fault of the tokens alone
abbrev pub IsPlaceOf : List ℕ → List Token → ParseFault → Type 0
IsPlaceOf text tokens (e.Unexpected token) = IsUnexpectedOf text tokens token
IsPlaceOf text tokens (e.TooDeep token) = IsTooDeepOf text tokens token
IsPlaceOf text tokens e.NoMemory = ⊥
