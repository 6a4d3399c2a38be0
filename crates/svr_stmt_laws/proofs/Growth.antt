-- More room and more turns keep what was read of statements.
use Rattle.std.proofs.Common.{ℕ, zero, suc, ◌≤◌, Bool, true, false, Option, Some, refl, subst, arith, ◌≡◌}
use Rattle.svr_token.specs.declared.Lexeme.{Lexeme}
use Rattle.svr_token.specs.declared.Lexeme.TheVariants as lexeme
use Rattle.svr_token.specs.declared.Word.TheVariants as w
use Rattle.svr_token.specs.declared.Mark.TheVariants as m
use Rattle.svr_token.specs.declared.NameKind.{NameKind}
use Rattle.svr_tree.specs.StmtTree.{StmtTree}
use Rattle.svr_reader.specs.Outcomes.{Parser}
use Rattle.svr_reader.specs.Program.{call}
use Rattle.svr_reader.specs.Lists.{WithHeight}
use Rattle.svr_reader.proofs.Local.{IsLocal}
use Rattle.svr_reader.proofs.Growth.{Grows, Rooms, grows_run}
use Rattle.svr_reader.proofs.Rooms.{none_local, grows_none, OpensAt, OpensBy, opens_enter, opens_call, opens_bind, opens_here, opens_peek, past_of, refused_of}
use Rattle.svr_reader.proofs.Layers.{IsGrowing}
use Rattle.svr_expr.specs.ExprRules.{expr, path_on, known_path, a_known_path, path_starts}
use Rattle.svr_expr.proofs.Local.{local_expr}
use Rattle.svr_expr_laws.proofs.Growth.{grows_node, grows_expr, grows_known_path, grows_exprs}
use Rattle.svr_stmt.proofs.Local as local
use Rattle.svr_stmt.specs.StmtRules.{Part, a_node, a_path_here, a_path_behind, indices, values, set_rest, a_stmt, Rule, path_stmt, stmt_from, empty_stmt, block_stmt, repeat_stmt, void_stmt, assert_stmt, stmt_by, stmt_in, stmt_starts, a_path_on, part, stmt, stmt_on}
use Rattle.svr_stmt_laws.proofs.Paths.{path_opens, grows_member_on, rooms_none, rooms_below}
use Rattle.svr_stmt_laws.proofs.Sets.{SetLaws}

-- ---- a path behind its first name

pub grows_path_on : (first : ℕ × NameKind) → IsGrowing (λ most r. a_path_on most r first)
unfolding a_path_on
grows_path_on first wider n n2 zero r2 more rooms = record { at = λ i. tt }
grows_path_on first wider n n2 (suc r) zero more rooms = absurd (rooms_none wider r rooms)
grows_path_on first wider n n2 (suc r) (suc r2) more rooms =
    grows_run wider n n2 r r2 (expr n r) (expr n2 r2) more (rooms_below wider r r2 rooms) (local_expr n2 r2) (λ least. grows_expr least wider n n2 r r2 more (rooms_below wider r r2 rooms)) (path_on first)

module _ (sets : SetLaws) where
  -- what a statement calls for
  pub local_parts : (most r : ℕ) (k : Part) → IsLocal (part most r (stmt most r) k)
  local_parts = local.local_parts

  -- ---- what is done with the first token, where there is room

  module _ (most r : ℕ) where
    abbrev O : {A : Type 0} → Option Lexeme → Bool → Rule A → Type 0
    O q b p = OpensAt most r (part most r (stmt most r)) (local_parts most r) q b p

    path_call_opens : 1 ≤ r → (q : Option Lexeme) → O q (path_starts q) (call a_path_here)
    unfolding a_known_path
    path_call_opens fits q = by r refl fits
      where
        known : (n : ℕ) → OpensAt most n (expr most n) (local_expr most n) q (path_starts q) known_path → OpensAt most (suc n) (part most (suc n) (stmt most (suc n))) (local_parts most (suc n)) q (path_starts q) (call a_path_here)
        known n o = opens_call most (suc n) (part most (suc n) (stmt most (suc n))) (local_parts most (suc n)) {k = a_path_here} o.past o.refuses

        by : (n : ℕ) → n ≡ r → 1 ≤ n → O q (path_starts q) (call a_path_here)
        by zero e some = absurd (omega (arith, some))
        by (suc n) e some = subst (λ v. OpensAt most v (part most v (stmt most v)) (local_parts most v) q (path_starts q) (call a_path_here)) e (known n (path_opens most n (expr most n) (local_expr most n) q))

    path_stmt_opens : 1 ≤ r → (q : Option Lexeme) → O q (path_starts q) path_stmt
    unfolding path_stmt
    path_stmt_opens fits q = opens_here most r (part most r (stmt most r)) (local_parts most r) (λ n. opens_bind most r (part most r (stmt most r)) (local_parts most r) (path_call_opens fits q))

    stmt_by_opens : 1 ≤ r → (q : Option Lexeme) → O q (stmt_starts q) (stmt_by q)
    unfolding empty_stmt block_stmt repeat_stmt void_stmt assert_stmt
    stmt_by_opens fits (Some (lexeme.Mark m.Semicolon)) = opens_enter most r (part most r (stmt most r)) (local_parts most r) (omega arith)
    stmt_by_opens fits (Some (lexeme.Word w.Begin)) = opens_enter most r (part most r (stmt most r)) (local_parts most r) (omega arith)
    stmt_by_opens fits (Some (lexeme.Word w.Repeat)) = opens_enter most r (part most r (stmt most r)) (local_parts most r) fits
    stmt_by_opens fits (Some (lexeme.Word w.Void)) = opens_enter most r (part most r (stmt most r)) (local_parts most r) fits
    stmt_by_opens fits (Some (lexeme.Word w.Assert)) = opens_enter most r (part most r (stmt most r)) (local_parts most r) fits
    stmt_by_opens fits q = path_stmt_opens fits q

    stmt_opens : 1 ≤ r → OpensBy most r (part most r (stmt most r)) (local_parts most r) stmt_starts stmt_in
    unfolding stmt_in
    stmt_opens fits = record { opens = λ q. opens_peek most r (part most r (stmt most r)) (local_parts most r) (stmt_by_opens fits q) }

  -- ---- growth

  grows_part : (wider : Bool) (n n2 r r2 : ℕ) → n ≤ n2 → Rooms wider r r2 → (below below2 : Parser (WithHeight StmtTree)) → Grows wider below below2 → (k : Part) → Grows wider (part n r below k) (part n2 r2 below2 k)
  grows_part wider n n2 r r2 more rooms below below2 h (a_node k) = grows_node k wider n n2 r r2 more rooms
  grows_part wider n n2 r r2 more rooms below below2 h a_path_here = grows_known_path wider n n2 r r2 more rooms
  grows_part wider n n2 r r2 more rooms below below2 h (a_path_behind first) = grows_path_on first wider n n2 r r2 more rooms
  grows_part wider n n2 r r2 more rooms below below2 h (indices at base) = grows_member_on at base wider n n2 r r2 more rooms
  grows_part wider n n2 r r2 more rooms below below2 h values = grows_exprs wider n n2 r r2 more rooms
  grows_part wider n n2 r r2 more rooms below below2 h set_rest = sets.grows wider n n2 r r2 more rooms
  grows_part wider n n2 r r2 more rooms below below2 h a_stmt = h

  pub grows_stmt : IsGrowing stmt
  unfolding stmt
  grows_stmt true n n2 zero zero more rooms = absurd (omega (arith, rooms))
  grows_stmt true n n2 zero (suc r2) more rooms = let o = stmt_opens n2 r2 (omega (arith, rooms)) in
      grows_none (WithHeight StmtTree) stmt_starts true _ (λ e. absurd (cc)) (λ _ i h. past_of n2 r2 (part n2 r2 (stmt n2 r2)) (local_parts n2 r2) o i h) (λ _ i h. refused_of n2 r2 (part n2 r2 (stmt n2 r2)) (local_parts n2 r2) o i h)
  grows_stmt false n n2 zero zero more rooms = grows_none (WithHeight StmtTree) stmt_starts false _ (λ _ i. refl) (λ e. absurd (cc)) (λ e. absurd (cc))
  grows_stmt false n n2 zero (suc r2) more rooms = absurd (omega (arith, rooms))
  grows_stmt wider n n2 (suc r) zero more rooms = absurd (rooms_none wider r rooms)
  grows_stmt wider n n2 (suc r) (suc r2) more rooms = let below = rooms_below wider r r2 rooms in
      grows_run wider n n2 r r2 (part n r (stmt n r)) (part n2 r2 (stmt n2 r2)) more below (local_parts n2 r2) (grows_part wider n n2 r r2 more below (stmt n r) (stmt n2 r2) (grows_stmt wider n n2 r r2 more below)) stmt_in

  pub grows_stmt_on : (first : ℕ × NameKind) → IsGrowing (λ most r. stmt_on most r first)
  unfolding stmt_on
  grows_stmt_on first wider n n2 zero r2 more rooms = record { at = λ i. tt }
  grows_stmt_on first wider n n2 (suc r) zero more rooms = absurd (rooms_none wider r rooms)
  grows_stmt_on first wider n n2 (suc r) (suc r2) more rooms = let below = rooms_below wider r r2 rooms in
      grows_run wider n n2 r r2 (part n r (stmt n r)) (part n2 r2 (stmt n2 r2)) more below (local_parts n2 r2) (grows_part wider n n2 r r2 more below (stmt n r) (stmt n2 r2) (grows_stmt wider n n2 r r2 more below)) (stmt_from first)
