-- Expressions are read from the left, and take a token at least.
use Rattle.std.proofs.Common.{ℕ, zero, suc, Option, Some, None}
use Rattle.svr_token.specs.declared.Lexeme.{Lexeme}
use Rattle.svr_token.specs.declared.Lexeme.TheVariants as lexeme
use Rattle.svr_token.specs.declared.Word.TheVariants as w
use Rattle.svr_token.specs.declared.Mark.TheVariants as m
use Rattle.svr_token.specs.declared.NameKind.{NameKind}
use Rattle.svr_operator.specs.declared.UnOp.{UnOp}
use Rattle.svr_tree.specs.ExprTree.{ExprTree}
use Rattle.svr_reader.specs.Outcomes.{Parser}
use Rattle.svr_reader.specs.Lists.{WithHeight}
use Rattle.svr_reader.proofs.Local.{IsLocal, local_run}
use Rattle.svr_reader.proofs.Live.{Consumes}
use Rattle.svr_reader.proofs.Rooms.{none_local, none_never}
use Rattle.svr_expr.specs.Connectives.{unary_of}
use Rattle.svr_expr.specs.ExprRules.{Rule, path_from, plain_path, local_path, this_path, known_path_by, known_path, path_expr, exprs, range, literal, paren_expr, sign_expr, brace_expr, unary_expr, unary_by, prefix_by, prefix, expr_in, Node, an_expr, a_path, a_member, rest_of_path, rest_of_operand, node_in, path_starts, expr_starts, no_node, node, expr, a_known_path, some_exprs, a_range}
use Rattle.svr_expr.proofs.Takes.{TakesToken, bind_takes, take_takes, enter_takes, name_then_takes, peek_takes, here_takes, refuse_takes}

-- ---- locality

none_node_local : (k : Node) → IsLocal (no_node k)
none_node_local (an_expr least) = none_local (WithHeight ExprTree) expr_starts
none_node_local a_path = none_local (WithHeight ExprTree) path_starts
none_node_local a_member = none_local (WithHeight ExprTree) path_starts
none_node_local (rest_of_path at first) = record { at = λ i. tt }
none_node_local (rest_of_operand at first) = record { at = λ i. tt }

pub local_node : (most r : ℕ) (k : Node) → IsLocal (node most r k)
unfolding node
local_node most zero k = none_node_local k
local_node most (suc r) k = local_run most r (expr most r) (λ least. local_node most r (an_expr least)) (node_in k)

pub local_expr : (most r least : ℕ) → IsLocal (expr most r least)
local_expr most r least = local_node most r (an_expr least)

pub local_known_path : (most r : ℕ) → IsLocal (a_known_path most r)
unfolding a_known_path
local_known_path most zero = none_local (ExprTree × NameKind) path_starts
local_known_path most (suc r) = local_run most r (expr most r) (local_expr most r) known_path

pub local_exprs : (most r : ℕ) → IsLocal (some_exprs most r)
unfolding some_exprs
local_exprs most r = local_run most r (expr most r) (local_expr most r) exprs

pub local_range : (most r : ℕ) → IsLocal (a_range most r)
unfolding a_range
local_range most r = local_run most r (expr most r) (local_expr most r) range

-- ---- the first token

module _ (most r : ℕ) (sub : ℕ → Parser (WithHeight ExprTree)) (ls : (least : ℕ) → IsLocal (sub least)) where
  abbrev T : {A : Type 0} → Rule A → Type 0
  T p = TakesToken most r sub ls p

  path_by_takes : (q : Option Lexeme) → T (known_path_by q)
  unfolding local_path this_path plain_path path_from
  path_by_takes (Some (lexeme.Word w.Local)) = take_takes most r sub ls _
  path_by_takes (Some (lexeme.Word w.This)) = take_takes most r sub ls _
  path_by_takes _ = here_takes most r sub ls _ (λ n. name_then_takes most r sub ls _)

  path_takes : T known_path
  unfolding known_path
  path_takes = peek_takes most r sub ls known_path_by path_by_takes

  path_expr_takes : T path_expr
  unfolding path_expr
  path_expr_takes = here_takes most r sub ls _ (λ n. bind_takes most r sub ls known_path _ path_takes)

  unary_takes : (op : Option UnOp) → T (unary_by op)
  unfolding unary_expr
  unary_takes (Some op) = enter_takes most r sub ls 1 _
  unary_takes None = refuse_takes most r sub ls

  prefix_by_takes : (q : Option Lexeme) → T (prefix_by q)
  unfolding literal sign_expr paren_expr brace_expr
  prefix_by_takes (Some (lexeme.Literal v width signed)) = take_takes most r sub ls _
  prefix_by_takes (Some (lexeme.Name k)) = path_expr_takes
  prefix_by_takes (Some (lexeme.Word w.Local)) = path_expr_takes
  prefix_by_takes (Some (lexeme.Word w.This)) = path_expr_takes
  prefix_by_takes (Some (lexeme.System s)) = enter_takes most r sub ls 1 _
  prefix_by_takes (Some (lexeme.Mark m.OpenParen)) = enter_takes most r sub ls 1 _
  prefix_by_takes (Some (lexeme.Mark m.OpenBrace)) = enter_takes most r sub ls 1 _
  prefix_by_takes (Some (lexeme.Mark k)) = unary_takes (unary_of k)
  prefix_by_takes _ = refuse_takes most r sub ls

  expr_in_takes : (least : ℕ) → T (expr_in least)
  unfolding expr_in prefix
  expr_in_takes least = here_takes most r sub ls _ (λ n. bind_takes most r sub ls prefix _ (peek_takes most r sub ls prefix_by prefix_by_takes))

-- ---- what takes one

pub expr_takes : (most r least : ℕ) → Consumes (expr most r least)
unfolding node
expr_takes most zero least i y j h = absurd (none_never (WithHeight ExprTree) expr_starts i (y, j) h)
expr_takes most (suc r) least i y j h = (expr_in_takes most r (expr most r) (local_expr most r) least).consumes i y j h

pub known_path_takes : (most r : ℕ) → Consumes (a_known_path most r)
unfolding a_known_path
known_path_takes most zero i y j h = absurd (none_never (ExprTree × NameKind) path_starts i (y, j) h)
known_path_takes most (suc r) i y j h = (path_takes most r (expr most r) (local_expr most r)).consumes i y j h
