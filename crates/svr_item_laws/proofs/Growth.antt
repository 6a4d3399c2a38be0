-- More room and more turns keep what was read of items.
use Rattle.std.proofs.Common.{◌≡◌, ℕ, zero, suc, ◌≤◌, Bool, true, false, List, length, Option, Some, Err, refl, arith}
use Rattle.svr_token.specs.declared.Lexeme.{Lexeme}
use Rattle.svr_token.specs.declared.Lexeme.TheVariants as lexeme
use Rattle.svr_token.specs.declared.Word.TheVariants as w
use Rattle.svr_tree.specs.Tokens.{Tok}
use Rattle.svr_tree.specs.ItemTree.{ItemTree}
use Rattle.svr_reader.specs.Outcomes.{Unexpected, lexeme_at}
use Rattle.svr_reader.specs.Program.{call}
use Rattle.svr_reader.specs.Lists.{WithHeight, no_room, until}
use Rattle.svr_reader.proofs.Growth.{Past, Grows, Rooms, grows_run}
use Rattle.svr_reader.proofs.Rooms.{grows_none, OpensAt, OpensBy, opens_enter, opens_call, opens_bind, opens_here, opens_peek, past_of, refused_of}
use Rattle.svr_reader.proofs.Layers.{IsGrowing}
use Rattle.svr_expr.specs.ExprRules.{expr_starts, an_expr, node, expr}
use Rattle.svr_expr.proofs.Local.{local_expr}
use Rattle.svr_expr_laws.proofs.Growth.{expr_opens, grows_node, grows_range}
use Rattle.svr_item.proofs.Local.{local_parts, local_block_item}
use Rattle.svr_item.specs.ItemRules.{Part, Rule, a_node, a_set_range, an_item, items, expr_item, soft_item, unique_item, branch_item, foreach_item, disable_item, solve_item, item_by, item_in, block_item_by, block_item_in, item_starts, block_starts, part, item, block_item, set_items, block_items}
use Rattle.svr_item_laws.proofs.Trees.{close_brace}

-- ---- what is done with the first token, where there is room

expr_past : (most r : ℕ) → 2 ≤ r → (q : Option Lexeme) (i : List Tok) → lexeme_at i ≡ q → expr_starts q ≡ true → Past (length i) (expr most r 2 i)
unfolding node
expr_past most zero two q i e b = absurd (omega (arith, two))
expr_past most (suc r) two q i e b = ((expr_opens most r (expr most r) (local_expr most r) (omega (arith, two)) 2).opens q).past i e b

expr_refuses : (most r : ℕ) → 2 ≤ r → (q : Option Lexeme) (i : List Tok) → lexeme_at i ≡ q → expr_starts q ≡ false → expr most r 2 i ≡ Err (Unexpected (length i))
unfolding node
expr_refuses most zero two q i e b = absurd (omega (arith, two))
expr_refuses most (suc r) two q i e b = ((expr_opens most r (expr most r) (local_expr most r) (omega (arith, two)) 2).opens q).refuses i e b

module _ (most r : ℕ) (two : 2 ≤ r) where
  abbrev O : {A : Type 0} → Option Lexeme → Bool → Rule A → Type 0
  O q b p = OpensAt most r (part most r (item most r)) (local_parts most r) q b p

  expr_item_opens : (q : Option Lexeme) → O q (expr_starts q) expr_item
  unfolding expr_item
  expr_item_opens q = opens_here most r (part most r (item most r)) (local_parts most r) (λ n. opens_bind most r (part most r (item most r)) (local_parts most r)
      (opens_call most r (part most r (item most r)) (local_parts most r) {k = a_node (an_expr 2)} (λ i e b. expr_past most r two q i e b) (λ i e b. expr_refuses most r two q i e b)))

  item_by_opens : (q : Option Lexeme) → O q (item_starts q) (item_by q)
  unfolding soft_item unique_item branch_item foreach_item disable_item
  item_by_opens (Some (lexeme.Word w.Soft)) = opens_enter most r (part most r (item most r)) (local_parts most r) (omega (arith, two))
  item_by_opens (Some (lexeme.Word w.Unique)) = opens_enter most r (part most r (item most r)) (local_parts most r) (omega (arith, two))
  item_by_opens (Some (lexeme.Word w.If)) = opens_enter most r (part most r (item most r)) (local_parts most r) (omega (arith, two))
  item_by_opens (Some (lexeme.Word w.Foreach)) = opens_enter most r (part most r (item most r)) (local_parts most r) (omega (arith, two))
  item_by_opens (Some (lexeme.Word w.Disable)) = opens_enter most r (part most r (item most r)) (local_parts most r) (omega (arith, two))
  item_by_opens q = expr_item_opens q

  block_by_opens : (q : Option Lexeme) → O q (block_starts q) (block_item_by q)
  unfolding solve_item
  block_by_opens (Some (lexeme.Word w.Solve)) = opens_enter most r (part most r (item most r)) (local_parts most r) (omega (arith, two))
  block_by_opens q = item_by_opens q

  pub item_opens : OpensBy most r (part most r (item most r)) (local_parts most r) item_starts item_in
  unfolding item_in
  item_opens = record { opens = λ q. opens_peek most r (part most r (item most r)) (local_parts most r) (item_by_opens q) }

  pub block_item_opens : OpensBy most r (part most r (item most r)) (local_parts most r) block_starts block_item_in
  unfolding block_item_in
  block_item_opens = record { opens = λ q. opens_peek most r (part most r (item most r)) (local_parts most r) (block_by_opens q) }

-- ---- growth

none_item_grows : (wider : Bool) (n2 r2 : ℕ) → Rooms wider 0 r2 → Grows wider (no_room item_starts) (item n2 r2)
unfolding item
none_item_grows true n2 zero rooms = absurd (omega (arith, rooms))
none_item_grows true n2 (suc r2) rooms = let o = item_opens n2 r2 (omega (arith, rooms)) in
    grows_none (WithHeight ItemTree) item_starts true _ (λ e. absurd (cc)) (λ _ i h. past_of n2 r2 (part n2 r2 (item n2 r2)) (local_parts n2 r2) o i h) (λ _ i h. refused_of n2 r2 (part n2 r2 (item n2 r2)) (local_parts n2 r2) o i h)
none_item_grows false n2 zero rooms = grows_none (WithHeight ItemTree) item_starts false _ (λ _ i. refl) (λ e. absurd (cc)) (λ e. absurd (cc))
none_item_grows false n2 (suc r2) rooms = absurd (omega (arith, rooms))

none_block_grows : (wider : Bool) (n2 r2 : ℕ) → Rooms wider 0 r2 → Grows wider (no_room block_starts) (block_item n2 r2)
unfolding block_item
none_block_grows true n2 zero rooms = absurd (omega (arith, rooms))
none_block_grows true n2 (suc r2) rooms = let o = block_item_opens n2 r2 (omega (arith, rooms)) in
    grows_none (WithHeight ItemTree) block_starts true _ (λ e. absurd (cc)) (λ _ i h. past_of n2 r2 (part n2 r2 (item n2 r2)) (local_parts n2 r2) o i h) (λ _ i h. refused_of n2 r2 (part n2 r2 (item n2 r2)) (local_parts n2 r2) o i h)
none_block_grows false n2 zero rooms = grows_none (WithHeight ItemTree) block_starts false _ (λ _ i. refl) (λ e. absurd (cc)) (λ e. absurd (cc))
none_block_grows false n2 (suc r2) rooms = absurd (omega (arith, rooms))

rooms_none : (wider : Bool) (r : ℕ) → Rooms wider (suc r) zero → ⊥
rooms_none true r h = omega (arith, h)
rooms_none false r h = omega (arith, h)

rooms_below : (wider : Bool) (r r2 : ℕ) → Rooms wider (suc r) (suc r2) → Rooms wider r r2
rooms_below true r r2 h = omega (arith, h)
rooms_below false r r2 h = omega (arith, h)

grows_part : (wider : Bool) (n n2 r r2 : ℕ) → n ≤ n2 → Rooms wider r r2 → Grows wider (item n r) (item n2 r2) → (k : Part) → Grows wider (part n r (item n r) k) (part n2 r2 (item n2 r2) k)
grows_part wider n n2 r r2 more rooms h (a_node k) = grows_node k wider n n2 r r2 more rooms
grows_part wider n n2 r r2 more rooms h a_set_range = grows_range wider n n2 r r2 more rooms
grows_part wider n n2 r r2 more rooms h an_item = h

pub grows_item : IsGrowing item
unfolding item
grows_item wider n n2 zero r2 more rooms = none_item_grows wider n2 r2 rooms
grows_item wider n n2 (suc r) zero more rooms = absurd (rooms_none wider r rooms)
grows_item wider n n2 (suc r) (suc r2) more rooms = let fewer = rooms_below wider r r2 rooms in
    grows_run wider n n2 r r2 (part n r (item n r)) (part n2 r2 (item n2 r2)) more fewer (local_parts n2 r2) (grows_part wider n n2 r r2 more fewer (grows_item wider n n2 r r2 more fewer)) item_in

pub grows_parts : (wider : Bool) (n n2 r r2 : ℕ) → n ≤ n2 → Rooms wider r r2 → (k : Part) → Grows wider (part n r (item n r) k) (part n2 r2 (item n2 r2) k)
grows_parts wider n n2 r r2 more rooms k = grows_part wider n n2 r r2 more rooms (grows_item wider n n2 r r2 more rooms) k

pub grows_block_item : IsGrowing block_item
unfolding block_item
grows_block_item wider n n2 zero r2 more rooms = none_block_grows wider n2 r2 rooms
grows_block_item wider n n2 (suc r) zero more rooms = absurd (rooms_none wider r rooms)
grows_block_item wider n n2 (suc r) (suc r2) more rooms = let fewer = rooms_below wider r r2 rooms in
    grows_run wider n n2 r r2 (part n r (item n r)) (part n2 r2 (item n2 r2)) more fewer (local_parts n2 r2) (grows_parts wider n n2 r r2 more fewer) block_item_in

pub grows_set_items : IsGrowing set_items
unfolding set_items
grows_set_items wider n n2 r r2 more rooms = grows_run wider n n2 r r2 (part n r (item n r)) (part n2 r2 (item n2 r2)) more rooms (local_parts n2 r2) (grows_parts wider n n2 r r2 more rooms) items

pub grows_block_items : IsGrowing block_items
unfolding block_items
grows_block_items wider n n2 r r2 more rooms =
    grows_run {K = Unit {0}} {Ans = λ _. WithHeight ItemTree} wider n n2 r r2 (λ _. block_item n r) (λ _. block_item n2 r2) more rooms (λ _. local_block_item n2 r2) (λ _. grows_block_item wider n n2 r r2 more rooms) (until close_brace (call tt))
