use Rattle.svr_elab_decl.specs.Seen.{dims_part}
use Rattle.svr_elab_decl.proofs.Forms.{rows_are}
use Rattle.svr_elab_decl.proofs.dims.rows.Goals as goal

pub returns : goal.returns
returns c = rows_are c.args.name (dims_part c.row_dims.result) (dims_part c.in_ok-rows.rows) (dims_part c.in_ok-row.row) _ _ c.row_dims.ensures c.in_ok-rows.ensures c.in_ok-row.ensures
