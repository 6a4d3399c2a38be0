-- What a script that was read gives: its literals and lists fit, its loops can be numbered, and its declarations can be counted.
use Rattle.std.specs.Prelude.{ℕ, ◌+◌, ◌<◌, ◌^◌, length, List, [], ◌∷◌}
use Rattle.svr_limits.specs.declared.limit.TheConstants.{HEIGHT_LIMIT}
use Rattle.svr_token.specs.declared.Token.{Token}
use Rattle.svr_token.specs.declared.Lexeme.{Lexeme}
use Rattle.svr_tree.specs.Tokens.{numbered}
use Rattle.svr_tree.specs.DeclTree as decl
use Rattle.svr_tree.specs.DeclTree.{ClassItemTree, ClassTree}
use Rattle.svr_tree.specs.ScriptTree.{UnitTree, ScriptTree}
use Rattle.svr_tree.specs.ScriptGrammar.{IsOrder}
use Rattle.svr_tree.specs.Reading.{IsReading}
use Rattle.svr_reader.specs.Spelled.{AreSpelled}
use Rattle.svr_elab_tops.specs.InOrder.{TypesFit, ClassesFit}
use Rattle.svr_elab_block.specs.Fits.{BodiesFit}
use Rattle.svr_elab_unit.specs.Fits.{VarTypesFit, VarValuesFit, AllStmtsFit, declared_in}

-- the tokens of the text spell the script, which is no higher than the limit
pub record IsReadFrom (text : List ℕ) (tokens : List Token) (s : ScriptTree) : Type 0 where
  pub lexemes : List Lexeme
  pub spelled : AreSpelled text tokens lexemes
  pub reading : IsReading HEIGHT_LIMIT (numbered 0 lexemes) s
  pub few : length tokens < 2 ^ 32

-- how many constraint blocks are declared
abbrev pub own_blocks : List ClassItemTree → ℕ
own_blocks [] = 0
own_blocks (decl.property p ∷ is) = own_blocks is
own_blocks (decl.block b ∷ is) = own_blocks is + 1

abbrev pub blocks_in : List ClassTree → ℕ
blocks_in [] = 0
blocks_in (c ∷ cs) = own_blocks c.items + blocks_in cs

pub record UnitFits (u : UnitTree) : Type 0 where
  pub outer_types : VarTypesFit 0 u.outer
  pub inner_types : VarTypesFit 0 u.inner
  pub outer_values : VarValuesFit 0 u.outer
  pub inner_values : VarValuesFit 0 u.inner
  pub all_stmts : AllStmtsFit 0 u.stmts
  pub few : declared_in u.outer + declared_in u.inner < 2 ^ 32

pub record ScriptFits (s : ScriptTree) : Type 0 where
  pub all_types : TypesFit 0 s.types
  pub all_classes : ClassesFit 0 s.classes
  pub bodies : BodiesFit 0 s.classes
  pub order : IsOrder s.types s.classes s.order
  pub few_types : length s.types < 2 ^ 32
  pub few_classes : length s.classes < 2 ^ 32
  pub few_blocks : blocks_in s.classes < 2 ^ 32
  pub the_unit : UnitFits s.unit

-- what is read is what elaboration asks of a script
abbrev pub ReadScriptFits : Type 0
ReadScriptFits = (text : List ℕ) (tokens : List Token) (s : ScriptTree) → IsReadFrom text tokens s → ScriptFits s
