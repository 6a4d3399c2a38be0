use Rattle.std.proofs.Common.{rules}
use Rattle.svr_elab_part.specs.Seen.{part_of}
use Rattle.svr_elab_form.proofs.Slices.{bit_is}
use Rattle.svr_elab_form.proofs.select.bit_part.Goals as goal

pub returns : goal.returns
returns c =
    bit_is c.args.at (part_of c.args.base) (part_of c.args.index) _ _ _ _ _ _ _ _
    c.bit.ensures c.in_ok-bit_node.ensures c.typed_as.ensures c.bit_fault-fault.ensures c.and.ensures c.no_constant.ensures c.of_bits.ensures (search rules)
