-- Statements are read from the left, and take a token at least.
use Rattle.std.proofs.Common.{◌≡◌, ℕ, ◌≤◌, zero, suc, List, length, Option, Some, Ok}
use Rattle.svr_token.specs.declared.Lexeme.{Lexeme}
use Rattle.svr_token.specs.declared.Lexeme.TheVariants as lexeme
use Rattle.svr_token.specs.declared.Word.TheVariants as w
use Rattle.svr_token.specs.declared.Mark.TheVariants as m
use Rattle.svr_token.specs.declared.NameKind.{NameKind}
use Rattle.svr_tree.specs.Tokens.{Tok}
use Rattle.svr_tree.specs.ExprTree.{ExprTree}
use Rattle.svr_tree.specs.StmtTree.{StmtTree}
use Rattle.svr_reader.specs.Outcomes.{Parser}
use Rattle.svr_reader.specs.Program.{loop, run}
use Rattle.svr_reader.specs.Lists.{WithHeight}
use Rattle.svr_reader.specs.Calls.{cap}
use Rattle.svr_reader.proofs.Local.{IsLocal, local_run}
use Rattle.svr_reader.proofs.Live.{Consumes}
use Rattle.svr_reader.proofs.Rooms.{none_local, none_never}
use Rattle.svr_expr.specs.ExprRules.{expr, path_on, member_step, a_member_on}
use Rattle.svr_expr.proofs.Local.{local_node, local_expr, local_known_path, local_exprs, known_path_takes}
use Rattle.svr_expr.proofs.Takes.{leaves_no_more}
use Rattle.svr_item.proofs.FirstSteps.{TakesOne, takes}
use Rattle.svr_item.proofs.Local.{local_set_items}
use Rattle.svr_stmt.specs.StmtRules.{Part, Ans, a_node, a_path_here, a_path_behind, indices, values, set_rest, a_stmt, Rule, path_stmt, stmt_from, empty_stmt, block_stmt, repeat_stmt, void_stmt, assert_stmt, stmt_by, stmt_in, stmt_starts, a_path_on, part, stmt, within, stmt_on}

-- ---- locality

pub local_path_on : (most r : ℕ) (first : ℕ × NameKind) → IsLocal (a_path_on most r first)
unfolding a_path_on
local_path_on most zero first = record { at = λ i. tt }
local_path_on most (suc r) first = local_run most r (expr most r) (local_expr most r) (path_on first)

pub local_member_on : (most r at : ℕ) (base : WithHeight ExprTree) → IsLocal (a_member_on most r at base)
unfolding a_member_on
local_member_on most zero at base = record { at = λ i. tt }
local_member_on most (suc r) at base = local_run most r (expr most r) (local_expr most r) (loop (member_step at) base)

pub local_part : (most r : ℕ) (below : Parser (WithHeight StmtTree)) → IsLocal below → (k : Part) → IsLocal (part most r below k)
local_part most r below l (a_node k) = local_node most r k
local_part most r below l a_path_here = local_known_path most r
local_part most r below l (a_path_behind first) = local_path_on most r first
local_part most r below l (indices at base) = local_member_on most r at base
local_part most r below l values = local_exprs most r
local_part most r below l set_rest = local_set_items most r
local_part most r below l a_stmt = l

pub local_stmt : (most r : ℕ) → IsLocal (stmt most r)
unfolding stmt
local_stmt most zero = none_local (WithHeight StmtTree) stmt_starts
local_stmt most (suc r) = local_run most r (part most r (stmt most r)) (local_part most r (stmt most r) (local_stmt most r)) stmt_in

-- what a statement calls for
pub local_parts : (most r : ℕ) (k : Part) → IsLocal (part most r (stmt most r) k)
local_parts most r = local_part most r (stmt most r) (local_stmt most r)

pub local_stmt_on : (most r : ℕ) (first : ℕ × NameKind) → IsLocal (stmt_on most r first)
unfolding stmt_on
local_stmt_on most zero first = record { at = λ i. tt }
local_stmt_on most (suc r) first = local_run most r (part most r (stmt most r)) (local_parts most r) (stmt_from first)

-- what a production leaves is no more than it found
pub no_more : {A : Type 0} (room : ℕ) (p : Rule A) (i : List Tok) (x : A) (j : List Tok) → within cap room p i ≡ Ok (x, j) → length j ≤ length i
no_more room p i x j h = leaves_no_more cap room (part cap room (stmt cap room)) (local_parts cap room) p i x j h

-- ---- what takes a token

module _ (most r : ℕ) where
  abbrev calls : (k : Part) → Parser (Ans k)
  calls = part most r (stmt most r)

  path_stmt_takes : TakesOne calls path_stmt
  unfolding path_stmt
  path_stmt_takes = λ n. known_path_takes most r

  stmt_by_takes : (q : Option Lexeme) → TakesOne calls (stmt_by q)
  unfolding empty_stmt block_stmt repeat_stmt void_stmt assert_stmt
  stmt_by_takes (Some (lexeme.Mark m.Semicolon)) = tt
  stmt_by_takes (Some (lexeme.Word w.Begin)) = tt
  stmt_by_takes (Some (lexeme.Word w.Repeat)) = tt
  stmt_by_takes (Some (lexeme.Word w.Void)) = tt
  stmt_by_takes (Some (lexeme.Word w.Assert)) = tt
  stmt_by_takes _ = path_stmt_takes

pub stmt_takes : (most r : ℕ) → Consumes (stmt most r)
unfolding stmt stmt_in
stmt_takes most zero i y j h = absurd (none_never (WithHeight StmtTree) stmt_starts i (y, j) h)
stmt_takes most (suc r) i y j h = takes most r (part most r (stmt most r)) (local_parts most r) stmt_in (stmt_by_takes most r) i y j h
