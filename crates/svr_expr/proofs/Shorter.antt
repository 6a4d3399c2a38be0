-- What a production leaves: no more tokens than it found, and fewer where it takes its first one.
use Rattle.std.proofs.Common.{◌≡◌, ℕ, ◌+◌, ◌<◌, ◌≤◌, max, false, List, length, Ok}
use Rattle.svr_token.specs.declared.NameKind.{NameKind}
use Rattle.svr_token.specs.declared.Mark.TheVariants as m
use Rattle.svr_tree.specs.Tokens.{Tok}
use Rattle.svr_tree.specs.Operators.{implication_level}
use Rattle.svr_tree.specs.ExprTree.{ExprTree, bit_select, part_select}
use Rattle.svr_reader.specs.declared.fixed.Fixed.TheVariants as f
use Rattle.svr_reader.specs.Steps.{named}
use Rattle.svr_reader.specs.Program.{pure, bind, expect, enter, call}
use Rattle.svr_reader.specs.Lists.{WithHeight, led}
use Rattle.svr_reader.specs.Calls.{cap}
use Rattle.svr_reader.proofs.Local.{IsLocal, local_run}
use Rattle.svr_reader.proofs.Live.{ok_shorter}
use Rattle.svr_reader.proofs.Led.{known_name_form}
use Rattle.svr_expr.specs.declared.connective.Connective.{Connective}
use Rattle.svr_expr.specs.ExprRules.{Rule, Node, node, expr, within, index_on, select_on, extend_by, extend}
use Rattle.svr_expr.proofs.Takes.{enter_takes}
use Rattle.svr_expr.proofs.Local.{local_node, local_expr}

pub local_within : {A : Type 0} (most r : ℕ) (p : Rule A) → IsLocal (within most r p)
local_within most r p = local_run most r (expr most r) (local_expr most r) p

-- ---- no more than was found

pub node_no_more : (room : ℕ) (k : Node) (i : List Tok) (x : WithHeight ExprTree) (j : List Tok) → node cap room k i ≡ Ok (x, j) → length j ≤ length i
node_no_more room k i x j h = ok_shorter (node cap room k) (local_node cap room k) i x j h

pub no_more : {A : Type 0} (room : ℕ) (p : Rule A) (i : List Tok) (x : A) (j : List Tok) → within cap room p i ≡ Ok (x, j) → length j ≤ length i
no_more room p i x j h = ok_shorter (within cap room p) (local_within cap room p) i x j h

-- ---- less than was found

entered_less : {A : Type 0} (room h : ℕ) (f : ℕ → Rule A) (i : List Tok) (x : A) (j : List Tok) → within cap room (bind (enter h) f) i ≡ Ok (x, j) → length j < length i
entered_less room h f i x j e = (enter_takes cap room (expr cap room) (local_expr cap room) h f).consumes i x j e

pub index_less : (room at : ℕ) (base : WithHeight ExprTree) (i : List Tok) (x : WithHeight ExprTree) (j : List Tok) → within cap room (index_on at base) i ≡ Ok (x, j) → length j < length i
unfolding index_on
index_less room at base i x j h = entered_less room base.1 (λ _. bind (call implication_level) (λ index. bind (expect (f.Mark m.CloseBracket)) (λ _. pure (bit_select at base.0 index.0 false, max base.1 index.1 + 1)))) i x j h

pub select_less : (room at : ℕ) (base : WithHeight ExprTree) (i : List Tok) (x : WithHeight ExprTree) (j : List Tok) → within cap room (select_on at base) i ≡ Ok (x, j) → length j < length i
unfolding select_on
select_less room at base i x j h = entered_less room base.1 (λ _. bind (call implication_level) (λ first. led (f.Mark m.Colon)
    (bind (call implication_level) (λ last. bind (expect (f.Mark m.CloseBracket)) (λ _. pure (part_select at base.0 first.0 last.0 false, max (max base.1 first.1) last.1 + 1))))
    (bind (expect (f.Mark m.CloseBracket)) (λ _. pure (bit_select at base.0 first.0 false, max base.1 first.1 + 1))))) i x j h

pub extend_less : (room at : ℕ) (left : WithHeight ExprTree) (k : Connective) (i : List Tok) (x : WithHeight ExprTree) (j : List Tok) → within cap room (extend at left k) i ≡ Ok (x, j) → length j < length i
unfolding extend
extend_less room at left k i x j h = entered_less room left.1 (λ _. extend_by at left k) i x j h

-- a name was taken
pub name_less : (i : List Tok) (x : ℕ × NameKind) (j : List Tok) → named i ≡ Ok (x, j) → length j < length i
name_less i x j h = (known_name_form cap 0 (expr cap 0) (local_expr cap 0)).consumes i x j h
