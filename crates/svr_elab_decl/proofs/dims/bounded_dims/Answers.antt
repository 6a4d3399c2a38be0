use Rattle.svr_elab_type.specs.Seen.{constant_part}
use Rattle.svr_elab_decl.proofs.Forms.{bounded_known}
use Rattle.svr_elab_decl.proofs.dims.bounded_dims.Goals as goal

pub returns : goal.returns
returns c =
    bounded_known (constant_part c.args.first) (constant_part c.args.last) _ _ _ _ _ _ _ _ _ _
    c.is_other-other.ensures c.is_below-below.ensures c.is_bad_pair-bad.ensures c.one_more.ensures c.count_if.ensures
    c.when.ensures c.when-2.ensures c.earlier-wrong.ensures c.earlier.ensures c.earlier-2.ensures
