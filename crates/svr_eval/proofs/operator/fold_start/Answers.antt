use Rattle.svr_eval.proofs.Bits.{one_fits}
use Rattle.svr_eval.proofs.operator.fold_start.Goals as goal

pub bits-requires-in-Product-clause-fits : goal.bits-requires-in-Product-clause-fits
bits-requires-in-Product-clause-fits c = one_fits c.args.width c.requires.low
