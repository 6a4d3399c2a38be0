-- What is read of a text fits.
use Rattle.std.proofs.Common.{◌≡◌, ℕ, ◌+◌, ◌≤◌, List, [], Ok, arith}
use Rattle.svr_token.specs.declared.Token.{Token}
use Rattle.svr_token.specs.declared.Lexeme.{Lexeme}
use Rattle.svr_tree.specs.ExprTree.{ExprTree}
use Rattle.svr_tree.specs.Tokens.{Tok, numbered}
use Rattle.svr_tree.specs.ExprGrammar.{expr_spelling, expr_height}
use Rattle.svr_reader.specs.Calls.{cap}
use Rattle.svr_reader.specs.Lists.{WithHeight}
use Rattle.svr_reader.specs.Spelled.{AreSpelled}
use Rattle.svr_reader.proofs.Layers.{ReadAs, IsSound}
use Rattle.svr_expr.specs.ExprRules.{expr}
use Rattle.svr_expr_laws.proofs.SoundParts.{IsAt}
use Rattle.svr_expr_laws.proofs.Sound.{expr_sound}
use Rattle.svr_elab_part.specs.Fits.{LiteralsFit, LoopsFit}
use Rattle.svr_elab_expr_laws.proofs.ReadFit.{expr_fits, entries_fit, tokens_fit, low_fits}

read_as : (ls : List Lexeme) (x : WithHeight ExprTree) (j : List Tok) → expr cap 9 1 (numbered 0 ls) ≡ Ok (x, j) → ReadAs expr_spelling (IsAt 1) expr_height 9 (numbered 0 ls) x j
read_as ls x j h = (expr_sound cap 9 1 (omega arith)).at (numbered 0 ls) x j h

pub literals_read : (text : List ℕ) (tokens : List Token) (ls : List Lexeme) (e : ExprTree) (n : ℕ) (j : List Tok) → AreSpelled text tokens ls → expr cap 9 1 (numbered 0 ls) ≡ Ok ((e, n), j) → LiteralsFit e
literals_read text tokens ls e n j s h =
    let d = read_as ls (e, n) j h in
    expr_fits e d.is.0 (entries_fit (numbered 0 ls) (expr_spelling e) j d.takes (tokens_fit 0 text tokens ls s))

pub loops_read : (ls : List Lexeme) (e : ExprTree) (n : ℕ) (j : List Tok) → expr cap 9 1 (numbered 0 ls) ≡ Ok ((e, n), j) → LoopsFit 0 e
loops_read ls e n j h = let d = read_as ls (e, n) j h in let height = d.height in let low = d.low in low_fits 0 e (omega (arith, height, low))
