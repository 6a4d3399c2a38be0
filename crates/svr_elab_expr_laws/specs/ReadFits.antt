-- What is read from a text fits: its literals are as wide as they say, its lists are not empty, and its reductions are no deeper than its height.
use Rattle.std.specs.Prelude.{ℕ, ◌+◌, ◌^◌, ◌<◌, ◌≤◌, max, List, [], ◌∷◌, ⊤}
use Rattle.svr_token.specs.declared.Token.{Token}
use Rattle.svr_token.specs.declared.Lexeme.{Lexeme}
use Rattle.svr_token.specs.declared.Lexeme.TheVariants as lexeme
use Rattle.svr_tree.specs.ExprTree.{ExprTree}
use Rattle.svr_tree.specs.Tokens.{Entry, On, Any, Name, OtherName, numbered}
use Rattle.svr_tree.specs.ExprGrammar.{expr_spelling, IsExpr, expr_height}
use Rattle.svr_tree.specs.Reading.{ReadsExpr}
use Rattle.svr_reader.specs.Spelled.{AreSpelled}
use Rattle.svr_elab_part.specs.Fits.{LiteralsFit, LoopsFit}

-- the value of a literal fits its width; one of width 0 is of one bit
abbrev pub LexemeFits : Lexeme → Type 0
LexemeFits (lexeme.Word w) = ⊤
LexemeFits (lexeme.Name kind) = ⊤
LexemeFits (lexeme.System name) = ⊤
LexemeFits (lexeme.Literal value width signed) = (width ≤ 64) × (value < 2 ^ max 1 width)
LexemeFits (lexeme.Mark mark) = ⊤

abbrev pub EntryFits : Entry → Type 0
EntryFits (On n l) = LexemeFits l
EntryFits (Any l) = LexemeFits l
EntryFits (Name n) = ⊤
EntryFits (OtherName n) = ⊤

-- what a tree of any kind spells, where it was read from a text
abbrev pub EntriesFit : List Entry → Type 0
EntriesFit [] = ⊤
EntriesFit (e ∷ es) = EntryFits e × EntriesFit es

-- literals fit wherever an expression stands in what was read
abbrev pub SpelledFits : Type 0
SpelledFits = (e : ExprTree) → IsExpr e → EntriesFit (expr_spelling e) → LiteralsFit e

abbrev pub ReadFits : Type 0
ReadFits = (text : List ℕ) (tokens : List Token) (lexemes : List Lexeme) (e : ExprTree) → AreSpelled text tokens lexemes → ReadsExpr e (numbered 0 lexemes) → LiteralsFit e

-- names stand in no more reductions than the expression is high
abbrev pub LowFits : Type 0
LowFits = (depth : ℕ) (e : ExprTree) → depth + expr_height e ≤ 2 ^ 32 → LoopsFit depth e
