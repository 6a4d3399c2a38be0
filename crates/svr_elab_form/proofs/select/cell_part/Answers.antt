use Rattle.svr_elab_part.specs.Seen.{part_of}
use Rattle.svr_elab_form.proofs.Slices.{cell_is}
use Rattle.svr_elab_form.proofs.select.cell_part.Goals as goal

pub returns : goal.returns
returns c =
    cell_is c.args.at (part_of c.args.base) (part_of c.args.index) _ _ _ _ _ _
    c.random_at-random.ensures c.in_ok-cell_tree.ensures c.earlier.ensures c.and.ensures c.no_constant.ensures c.indexed.ensures
