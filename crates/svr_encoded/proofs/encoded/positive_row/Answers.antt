use Rattle.std.proofs.Common.{arith, sym, ◌∙◌, add-one, ap}
use Rattle.svr_encoded.proofs.EncodedLemmas.{positives-push}
use Rattle.svr_encoded.proofs.encoded.positive_row.Goals as goal

pub loop-i-preserved : goal.loop-i-preserved
loop-i-preserved c = rw (add-one, positives-push, ← c.loop-i.invariant) (c.in_ok-push.ensures.items)
