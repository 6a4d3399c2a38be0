use Rattle.svr_elab_part.specs.Seen.{part_of}
use Rattle.svr_elab_form.proofs.Slices.{array_is}
use Rattle.svr_elab_form.proofs.select.array_part.Goals as goal

pub returns : goal.returns
returns c =
    array_is c.args.at (part_of c.args.base) (part_of c.args.index) _ _ _ _ _ _ _ _
    c.property.ensures c.of_element-extent.ensures c.random_at-random.ensures c.in_ok-tree.ensures c.earlier-fault.ensures c.and.ensures c.no_constant-reads.ensures c.indexed.ensures
