use Rattle.svr_elab_type.specs.Seen.{constant_part, type_part}
use Rattle.svr_elab_type.proofs.Forms.{range_is}
use Rattle.svr_elab_type.proofs.types.packed.Goals as goal

pub returns-clause-value : goal.returns-clause-value
returns-clause-value c =
    range_is c.args.at c.args.signed c.args.range.now.at (type_part c.range_type.result) (constant_part c.in_ok-msb.msb) (constant_part c.in_ok-lsb.lsb) _ _
    c.range_type.ensures.value c.in_ok-msb.ensures.value c.in_ok-lsb.ensures.value
