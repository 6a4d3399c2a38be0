use Rattle.svr_elab_target.proofs.Kept.{kept_emptied}
use Rattle.svr_elab_target.proofs.chain.FlatNames.new.Goals as goal

pub returns : goal.returns
returns c n = kept_emptied n _ c.new-kept.ensures.empty
