use Rattle.svr_elab_item.specs.Seen.{item_part, solve_part}
use Rattle.svr_elab_item.proofs.Forms.{solve_is}
use Rattle.svr_elab_item.proofs.solve.solve_item.Goals as goal

pub returns : goal.returns
returns c =
    solve_is (item_part c.both_sides.result) (solve_part c.in_ok-first.first) (solve_part c.in_ok-first.later) _ _ c.both_sides.ensures
    (rw c.in_ok-first.ensures.first at c.solve_list.ensures) (rw c.in_ok-first.ensures.second at c.solve_list-2.ensures)
