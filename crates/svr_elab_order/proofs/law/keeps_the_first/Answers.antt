use Rattle.svr_elab_order.proofs.Firsts.{kept}
use Rattle.svr_elab_order.proofs.law.keeps_the_first.Goals as goal

pub returns : goal.returns
returns c = kept
