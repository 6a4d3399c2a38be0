use Rattle.svr_typed.specs.ExprTerm.{expr_term}
use Rattle.svr_elab_item.specs.Seen.{solve_part}
use Rattle.svr_elab_item.proofs.Lists.{more_seen}
use Rattle.svr_elab_item.proofs.Forms.{and_solve_is}
use Rattle.svr_elab_item.proofs.solve.and_solve.Goals as goal

pub returns : goal.returns
returns c =
    and_solve_is (solve_part c.args.side) c.args.name c.args.meaning _ _ _
    (more_seen expr_term c.args.side.trees c.in_ok-and_more.field-0 c.solve_tree.result _ c.in_ok-and_more.ensures c.solve_tree.ensures)
    c.solve_fault.ensures c.earlier-fault.ensures
