use Rattle.svr_elab_type.specs.Seen.{constant_part}
use Rattle.svr_elab_decl.specs.Seen.{dims_part}
use Rattle.svr_elab_decl.proofs.Forms.{sized_is}
use Rattle.svr_elab_decl.proofs.dims.sized.Goals as goal

pub returns : goal.returns
returns c = sized_is (dims_part c.sized_dims.result) (constant_part c.in_ok-size.size) _ c.sized_dims.ensures c.in_ok-size.ensures.value
