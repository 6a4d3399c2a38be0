use Rattle.svr_elab_type.specs.Seen.{constant_part}
use Rattle.svr_elab_type.proofs.Forms.{range_known, range_small}
use Rattle.svr_elab_type.proofs.types.range_type.Goals as goal

pub returns-clause-value : goal.returns-clause-value
returns-clause-value c =
    range_known c.args.at c.args.signed c.args.bracket (constant_part c.args.msb) (constant_part c.args.lsb) _ _ _ _ _ _
    c.range_width-width.ensures c.is_over_64-wide.ensures c.is_bad_range-bad.ensures c.lowest_bit.ensures c.range_kind.ensures c.range_fault.ensures

pub returns-clause-fits : goal.returns-clause-fits
returns-clause-fits c =
    range_small c.args.signed c.args.msb.number c.args.lsb.number _ _ _ _ _
    c.range_width-width.ensures c.is_over_64-wide.ensures c.is_bad_range-bad.ensures c.lowest_bit.ensures c.range_kind.ensures
