use Rattle.svr_elab_type.specs.Seen.{constant_part}
use Rattle.svr_elab_decl.specs.Seen.{dims_part}
use Rattle.svr_elab_decl.proofs.Forms.{bounded_is}
use Rattle.svr_elab_decl.proofs.dims.bounded.Goals as goal

pub returns : goal.returns
returns c =
    bounded_is (dims_part c.bounded_dims.result) (constant_part c.in_ok-low.low) (constant_part c.in_ok-high.high) _ _ c.bounded_dims.ensures c.in_ok-low.ensures.value c.in_ok-high.ensures.value
