use Rattle.std.proofs.Common.{◌∙◌}
use Rattle.svr_stream.proofs.Putting.{puts_as}
use Rattle.svr_stream.proofs.pending.Pending.put_number.Goals as goal

pub returns : goal.returns
returns g c = puts_as c.put.ensures (c.as_bytes.ensures.value ∙ c.format.ensures.text)
