-- More room and more turns keep what was read.
use Rattle.std.proofs.Common.{ℕ, zero, suc, ◌≤◌, Bool, true, false, Option, Some, None, refl, arith}
use Rattle.svr_token.specs.declared.Lexeme.{Lexeme}
use Rattle.svr_token.specs.declared.Lexeme.TheVariants as lexeme
use Rattle.svr_token.specs.declared.Word.TheVariants as w
use Rattle.svr_token.specs.declared.Mark.{Mark}
use Rattle.svr_token.specs.declared.Mark.TheVariants as m
use Rattle.svr_token.specs.declared.NameKind.{NameKind}
use Rattle.svr_operator.specs.declared.UnOp.{UnOp}
use Rattle.svr_tree.specs.ExprTree.{ExprTree}
use Rattle.svr_reader.specs.Program.{known_name}
use Rattle.svr_reader.specs.Outcomes.{Parser}
use Rattle.svr_reader.specs.Lists.{WithHeight}
use Rattle.svr_reader.proofs.Local.{IsLocal, local_run}
use Rattle.svr_reader.proofs.Growth.{Grows, Rooms, grows_run}
use Rattle.svr_reader.proofs.Rooms.{none_local, grows_none, OpensAt, OpensBy, opens_refuse, opens_take, opens_name, opens_no_name, opens_enter, opens_bind, opens_here, opens_peek, past_of, refused_of}
use Rattle.svr_reader.proofs.Layers.{IsGrowing}
use Rattle.svr_expr.proofs.Local.{local_node, local_expr}
use Rattle.svr_expr.specs.Connectives.{unary_of}
use Rattle.svr_expr.specs.ExprRules.{Rule, path_from, plain_path, local_path, this_path, known_path_by, known_path, path_in, member_in, path_expr, exprs, range, literal, paren_expr, sign_expr, brace_expr, unary_expr, unary_by, prefix_by, prefix, expr_in, Node, an_expr, a_path, a_member, rest_of_path, rest_of_operand, node_in, is_operator, path_starts, expr_starts, no_node, node, expr, a_known_path, some_exprs, a_range}

-- ---- what is done with the first token, where there is room

module _ (most r : ℕ) (sub : ℕ → Parser (WithHeight ExprTree)) (ls : (least : ℕ) → IsLocal (sub least)) where
  abbrev O : {A : Type 0} → Option Lexeme → Bool → Rule A → Type 0
  O q b p = OpensAt most r sub ls q b p

  path_by_opens : (q : Option Lexeme) → O q (path_starts q) (known_path_by q)
  unfolding local_path this_path plain_path path_from
  path_by_opens (Some (lexeme.Word w.Local)) = opens_take most r sub ls
  path_by_opens (Some (lexeme.Word w.This)) = opens_take most r sub ls
  path_by_opens (Some (lexeme.Name k)) = opens_here most r sub ls (λ n. opens_bind most r sub ls (opens_name most r sub ls))
  path_by_opens _ = opens_here most r sub ls (λ n. opens_bind most r sub ls (opens_no_name most r sub ls (λ i. refl)))

  path_opens : (q : Option Lexeme) → O q (path_starts q) known_path
  unfolding known_path
  path_opens q = opens_peek most r sub ls (path_by_opens q)

  path_in_opens : (q : Option Lexeme) → O q (path_starts q) path_in
  unfolding path_in
  path_in_opens q = opens_bind most r sub ls (path_opens q)

  member_opens : (q : Option Lexeme) → O q (path_starts q) member_in
  unfolding member_in
  member_opens q = opens_here most r sub ls (λ n. opens_bind most r sub ls (path_in_opens q))

  path_expr_opens : (q : Option Lexeme) → O q (path_starts q) path_expr
  unfolding path_expr
  path_expr_opens q = opens_here most r sub ls (λ n. opens_bind most r sub ls (path_opens q))

  unary_expr_opens : 1 ≤ r → (k : Mark) (op : Option UnOp) → O (Some (lexeme.Mark k)) (is_operator op) (unary_by op)
  unfolding unary_expr
  unary_expr_opens fits k (Some op) = opens_enter most r sub ls fits
  unary_expr_opens fits k None = opens_refuse most r sub ls

  prefix_by_opens : 1 ≤ r → (q : Option Lexeme) → O q (expr_starts q) (prefix_by q)
  unfolding literal sign_expr paren_expr brace_expr
  prefix_by_opens fits (Some (lexeme.Literal v width signed)) = opens_take most r sub ls
  prefix_by_opens fits (Some (lexeme.Name k)) = path_expr_opens (Some (lexeme.Name k))
  prefix_by_opens fits (Some (lexeme.Word w.Local)) = path_expr_opens (Some (lexeme.Word w.Local))
  prefix_by_opens fits (Some (lexeme.Word w.This)) = path_expr_opens (Some (lexeme.Word w.This))
  prefix_by_opens fits (Some (lexeme.System s)) = opens_enter most r sub ls fits
  prefix_by_opens fits (Some (lexeme.Mark m.OpenParen)) = opens_enter most r sub ls fits
  prefix_by_opens fits (Some (lexeme.Mark m.OpenBrace)) = opens_enter most r sub ls fits
  prefix_by_opens fits (Some (lexeme.Mark k)) = unary_expr_opens fits k (unary_of k)
  prefix_by_opens fits _ = opens_refuse most r sub ls

  pub expr_opens : 1 ≤ r → (least : ℕ) → OpensBy most r sub ls expr_starts (expr_in least)
  unfolding expr_in prefix
  expr_opens fits least = record { opens = λ q. opens_here most r sub ls (λ n. opens_bind most r sub ls (opens_peek most r sub ls (prefix_by_opens fits q))) }

-- ---- growth

none_grows : (wider : Bool) (n2 r2 : ℕ) → Rooms wider 0 r2 → (k : Node) → Grows wider (no_node k) (node n2 r2 k)
unfolding node
none_grows true n2 zero rooms k = absurd (omega (arith, rooms))
none_grows true n2 (suc r2) rooms (an_expr least) = let o = expr_opens n2 r2 (expr n2 r2) (local_expr n2 r2) (omega (arith, rooms)) least in
    grows_none (WithHeight ExprTree) expr_starts true _ (λ e. absurd (cc)) (λ _ i h. past_of n2 r2 (expr n2 r2) (local_expr n2 r2) o i h) (λ _ i h. refused_of n2 r2 (expr n2 r2) (local_expr n2 r2) o i h)
none_grows true n2 (suc r2) rooms a_path = let o : OpensBy n2 r2 (expr n2 r2) (local_expr n2 r2) path_starts path_in = record { opens = path_in_opens n2 r2 (expr n2 r2) (local_expr n2 r2) } in
    grows_none (WithHeight ExprTree) path_starts true _ (λ e. absurd (cc)) (λ _ i h. past_of n2 r2 (expr n2 r2) (local_expr n2 r2) o i h) (λ _ i h. refused_of n2 r2 (expr n2 r2) (local_expr n2 r2) o i h)
none_grows true n2 (suc r2) rooms a_member = let o : OpensBy n2 r2 (expr n2 r2) (local_expr n2 r2) path_starts member_in = record { opens = member_opens n2 r2 (expr n2 r2) (local_expr n2 r2) } in
    grows_none (WithHeight ExprTree) path_starts true _ (λ e. absurd (cc)) (λ _ i h. past_of n2 r2 (expr n2 r2) (local_expr n2 r2) o i h) (λ _ i h. refused_of n2 r2 (expr n2 r2) (local_expr n2 r2) o i h)
none_grows false n2 zero rooms (an_expr least) = grows_none (WithHeight ExprTree) expr_starts false _ (λ _ i. refl) (λ e. absurd (cc)) (λ e. absurd (cc))
none_grows false n2 zero rooms a_path = grows_none (WithHeight ExprTree) path_starts false _ (λ _ i. refl) (λ e. absurd (cc)) (λ e. absurd (cc))
none_grows false n2 zero rooms a_member = grows_none (WithHeight ExprTree) path_starts false _ (λ _ i. refl) (λ e. absurd (cc)) (λ e. absurd (cc))
none_grows false n2 (suc r2) rooms k = absurd (omega (arith, rooms))
none_grows wider n2 r2 rooms (rest_of_path at first) = record { at = λ i. tt }
none_grows wider n2 r2 rooms (rest_of_operand at first) = record { at = λ i. tt }

rooms_none : (wider : Bool) (r : ℕ) → Rooms wider (suc r) zero → ⊥
rooms_none true r h = omega (arith, h)
rooms_none false r h = omega (arith, h)

rooms_below : (wider : Bool) (r r2 : ℕ) → Rooms wider (suc r) (suc r2) → Rooms wider r r2
rooms_below true r r2 h = omega (arith, h)
rooms_below false r r2 h = omega (arith, h)

pub grows_node : (k : Node) → IsGrowing (λ most r. node most r k)
unfolding node
grows_node k wider n n2 zero r2 more rooms = none_grows wider n2 r2 rooms k
grows_node k wider n n2 (suc r) zero more rooms = absurd (rooms_none wider r rooms)
grows_node k wider n n2 (suc r) (suc r2) more rooms =
    grows_run wider n n2 r r2 (expr n r) (expr n2 r2) more (rooms_below wider r r2 rooms) (local_expr n2 r2) (λ least. grows_node (an_expr least) wider n n2 r r2 more (rooms_below wider r r2 rooms)) (node_in k)

pub grows_expr : (least : ℕ) → IsGrowing (λ most r. expr most r least)
grows_expr least = grows_node (an_expr least)

pub grows_known_path : IsGrowing a_known_path
unfolding a_known_path
grows_known_path true n n2 zero zero more rooms = absurd (omega (arith, rooms))
grows_known_path true n n2 zero (suc r2) more rooms = let o : OpensBy n2 r2 (expr n2 r2) (local_expr n2 r2) path_starts known_path = record { opens = path_opens n2 r2 (expr n2 r2) (local_expr n2 r2) } in
    grows_none (ExprTree × NameKind) path_starts true _ (λ e. absurd (cc)) (λ _ i h. past_of n2 r2 (expr n2 r2) (local_expr n2 r2) o i h) (λ _ i h. refused_of n2 r2 (expr n2 r2) (local_expr n2 r2) o i h)
grows_known_path false n n2 zero zero more rooms = grows_none (ExprTree × NameKind) path_starts false _ (λ _ i. refl) (λ e. absurd (cc)) (λ e. absurd (cc))
grows_known_path false n n2 zero (suc r2) more rooms = absurd (omega (arith, rooms))
grows_known_path wider n n2 (suc r) zero more rooms = absurd (rooms_none wider r rooms)
grows_known_path wider n n2 (suc r) (suc r2) more rooms =
    grows_run wider n n2 r r2 (expr n r) (expr n2 r2) more (rooms_below wider r r2 rooms) (local_expr n2 r2) (λ least. grows_node (an_expr least) wider n n2 r r2 more (rooms_below wider r r2 rooms)) known_path

pub grows_exprs : IsGrowing some_exprs
unfolding some_exprs
grows_exprs wider n n2 r r2 more rooms = grows_run wider n n2 r r2 (expr n r) (expr n2 r2) more rooms (local_expr n2 r2) (λ least. grows_node (an_expr least) wider n n2 r r2 more rooms) exprs

pub grows_range : IsGrowing a_range
unfolding a_range
grows_range wider n n2 r r2 more rooms = grows_run wider n n2 r r2 (expr n r) (expr n2 r2) more rooms (local_expr n2 r2) (λ least. grows_node (an_expr least) wider n n2 r r2 more rooms) range
