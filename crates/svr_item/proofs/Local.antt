-- Items are read from the left, and take a token at least.
use Rattle.std.proofs.Common.{◌≡◌, ℕ, ◌≤◌, zero, suc, List, length, Option, Some, Ok, arith}
use Rattle.svr_token.specs.declared.Lexeme.{Lexeme}
use Rattle.svr_token.specs.declared.Lexeme.TheVariants as lexeme
use Rattle.svr_token.specs.declared.Word.TheVariants as w
use Rattle.svr_token.specs.declared.Mark.TheVariants as m
use Rattle.svr_tree.specs.Tokens.{Tok}
use Rattle.svr_tree.specs.ExprTree.{ExprTree}
use Rattle.svr_tree.specs.ItemTree.{ItemTree}
use Rattle.svr_reader.specs.Outcomes.{Parser}
use Rattle.svr_reader.specs.declared.fixed.Fixed.TheVariants as f
use Rattle.svr_reader.specs.Program.{call, run}
use Rattle.svr_reader.specs.Lists.{WithHeight, until}
use Rattle.svr_reader.specs.Calls.{cap}
use Rattle.svr_reader.proofs.Local.{IsLocal, local_run}
use Rattle.svr_reader.proofs.Live.{Consumes}
use Rattle.svr_reader.proofs.Rooms.{none_local, none_never}
use Rattle.svr_expr.proofs.Local.{local_node, local_range, expr_takes}
use Rattle.svr_expr.proofs.Takes.{leaves_no_more}
use Rattle.svr_expr.specs.ExprRules.{expr_starts, node, expr}
use Rattle.svr_item.proofs.FirstSteps.{TakesOne, takes}
use Rattle.svr_item.specs.ItemRules.{Part, Ans, Rule, a_node, a_set_range, an_item, items, expr_item, soft_item, unique_item, branch_item, foreach_item, disable_item, solve_item, item_by, item_in, block_item_by, block_item_in, item_starts, block_starts, part, item, within, block_item, set_items, block_items}

-- ---- locality

local_part : (most r : ℕ) (below : Parser (WithHeight ItemTree)) → IsLocal below → (k : Part) → IsLocal (part most r below k)
local_part most r below l (a_node k) = local_node most r k
local_part most r below l a_set_range = local_range most r
local_part most r below l an_item = l

pub local_item : (most r : ℕ) → IsLocal (item most r)
unfolding item
local_item most zero = none_local (WithHeight ItemTree) item_starts
local_item most (suc r) = local_run most r (part most r (item most r)) (local_part most r (item most r) (local_item most r)) item_in

-- what an item calls for
pub local_parts : (most r : ℕ) (k : Part) → IsLocal (part most r (item most r) k)
local_parts most r k = local_part most r (item most r) (local_item most r) k

pub local_block_item : (most r : ℕ) → IsLocal (block_item most r)
unfolding block_item
local_block_item most zero = none_local (WithHeight ItemTree) block_starts
local_block_item most (suc r) = local_run most r (part most r (item most r)) (local_parts most r) block_item_in

pub local_set_items : (most r : ℕ) → IsLocal (set_items most r)
unfolding set_items
local_set_items most r = local_run most r (part most r (item most r)) (local_parts most r) items

pub local_block_items : (most r : ℕ) → IsLocal (block_items most r)
unfolding block_items
local_block_items most r = local_run {K = Unit {0}} {Ans = λ _. WithHeight ItemTree} most r (λ _. block_item most r) (λ _. local_block_item most r) (until (f.Mark m.CloseBrace) (call tt))

-- an expression that was read had room
pub some_room : (most r least : ℕ) (i : List Tok) (x : WithHeight ExprTree) (j : List Tok) → expr most r least i ≡ Ok (x, j) → 1 ≤ r
unfolding node
some_room most zero least i x j h = absurd (none_never (WithHeight ExprTree) expr_starts i (x, j) h)
some_room most (suc r) least i x j h = omega arith

-- what a production leaves is no more than it found
pub no_more : {A : Type 0} (room : ℕ) (p : Rule A) (i : List Tok) (x : A) (j : List Tok) → within cap room p i ≡ Ok (x, j) → length j ≤ length i
no_more room p i x j h = leaves_no_more cap room (part cap room (item cap room)) (local_parts cap room) p i x j h

-- ---- what takes a token

module _ (most r : ℕ) where
  abbrev calls : (k : Part) → Parser (Ans k)
  calls = part most r (item most r)

  expr_item_takes : TakesOne calls expr_item
  unfolding expr_item
  expr_item_takes = λ n. expr_takes most r 2

  item_by_takes : (q : Option Lexeme) → TakesOne calls (item_by q)
  unfolding soft_item unique_item branch_item foreach_item disable_item
  item_by_takes (Some (lexeme.Word w.Soft)) = tt
  item_by_takes (Some (lexeme.Word w.Unique)) = tt
  item_by_takes (Some (lexeme.Word w.If)) = tt
  item_by_takes (Some (lexeme.Word w.Foreach)) = tt
  item_by_takes (Some (lexeme.Word w.Disable)) = tt
  item_by_takes _ = expr_item_takes

  block_item_by_takes : (q : Option Lexeme) → TakesOne calls (block_item_by q)
  unfolding solve_item
  block_item_by_takes (Some (lexeme.Word w.Solve)) = tt
  block_item_by_takes q = item_by_takes q

pub item_takes : (most r : ℕ) → Consumes (item most r)
unfolding item item_in
item_takes most zero i y j h = absurd (none_never (WithHeight ItemTree) item_starts i (y, j) h)
item_takes most (suc r) i y j h = takes most r (part most r (item most r)) (local_parts most r) item_in (item_by_takes most r) i y j h

pub block_item_takes : (most r : ℕ) → Consumes (block_item most r)
unfolding block_item block_item_in
block_item_takes most zero i y j h = absurd (none_never (WithHeight ItemTree) block_starts i (y, j) h)
block_item_takes most (suc r) i y j h = takes most r (part most r (item most r)) (local_parts most r) block_item_in (block_item_by_takes most r) i y j h
