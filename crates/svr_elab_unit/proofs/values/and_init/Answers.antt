use Rattle.std.proofs.Common.{◌≡◌, refl, arith}
use Rattle.svr_elab_stmt.specs.Seen.{stmt_part, stmts_part}
use Rattle.svr_elab_unit.proofs.Forms.{told_as, next_stmt}
use Rattle.svr_elab_unit.proofs.values.and_init.Goals as goal

pub and_next-requires-clause-before : goal.and_next-requires-clause-before
and_next-requires-clause-before c = rw c.in_ok-stmts.ensures.held c.requires.count

pub and_next-requires-clause-next : goal.and_next-requires-clause-next
and_next-requires-clause-next c =
    let once : c.in_ok-stmts.stmt.count ≡ 1 = rw c.in_ok-stmts.ensures.made at c.init_made-stmt.ensures.once in
    omega (arith, once)

pub returns-clause-value : goal.returns-clause-value
returns-clause-value c =
    let x = c.in_ok-stmts in
    told_as (stmts_part c.and_next.new.made.keys) c.and_next.result _ _ (rw x.ensures.held at c.and_next.ensures.value)
    (next_stmt (stmts_part c.args.made.now.keys c.args.stmts) (stmt_part x.stmt) _ _ refl (rw x.ensures.made at c.init_made-stmt.ensures.value))
