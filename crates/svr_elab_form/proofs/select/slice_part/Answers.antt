use Rattle.std.proofs.Common.{rules}
use Rattle.svr_elab_part.specs.Seen.{part_of}
use Rattle.svr_elab_form.proofs.Slices.{slice_is}
use Rattle.svr_elab_form.proofs.select.slice_part.Goals as goal

pub returns : goal.returns
returns c =
    slice_is c.args.at (part_of c.args.base) (part_of c.args.first) (part_of c.args.last) _ _ _ _ _ _ _ _ _ _ _ _ _
    c.known-high.ensures.value c.known-low.ensures.value c.is_high-above.ensures c.is_low-below.ensures c.part_shape-shape.ensures c.in_ok-part_node.ensures c.typed_as.ensures c.slice_fault-fault.ensures
    c.and.ensures c.and-2.ensures c.no_constant.ensures c.of_bits.ensures (search rules)
