use Rattle.std.proofs.Common.{refl}
use Rattle.svr_elab_stmt.specs.Seen.{stmt_part, stmts_part}
use Rattle.svr_elab_unit.proofs.Forms.{told_as}
use Rattle.svr_elab_unit.proofs.Runs.{top_is}
use Rattle.svr_elab_unit.proofs.top.and_top.Goals as goal

pub returns-clause-value : goal.returns-clause-value
returns-clause-value c =
    told_as (stmts_part c.and_next.new.made.keys) c.and_next.result _ _ c.and_next.ensures.value
    (top_is (stmts_part c.args.made.now.keys c.args.part) c.args.at (stmt_part c.args.next) (stmt_part c.with_limit-within.result) _ refl c.with_limit-within.ensures.value)
