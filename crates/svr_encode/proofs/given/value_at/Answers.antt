use Rattle.std.proofs.Common.{◌∙◌, arith}
use Rattle.svr_vector.proofs.PickLemmas.{rows_len, row_at}
use Rattle.svr_encode.proofs.given.value_at.Goals as goal

pub bounds-values-at : goal.bounds-values-at
bounds-values-at c = omega (arith, rows_len c.args.values.now)

pub returns : goal.returns
returns c = c.as_slice.ensures.value ∙ row_at c.args.values.now c.args.at c.index-values-at.result (omega (arith, rows_len c.args.values.now)) c.index-values-at.is
