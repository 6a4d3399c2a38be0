use Rattle.std.proofs.Common.{◌∙◌}
use Rattle.svr_elab_part.specs.Seen.{part_of, ranges_part_of}
use Rattle.svr_elab_form.proofs.Slices.{inside_is}
use Rattle.svr_elab_form.proofs.list.inside_part.Goals as goal

pub returns : goal.returns
returns c =
    c.node_part.ensures
    ∙ inside_is c.args.at (part_of c.args.left) (ranges_part_of c.args.set) _ _ _ _ c.bit.ensures c.in_ok-node.ensures c.earlier-fault.ensures c.and-reads.ensures
