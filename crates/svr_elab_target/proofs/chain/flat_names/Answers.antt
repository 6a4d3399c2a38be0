use Rattle.svr_elab_target.proofs.Chains.{turned_round}
use Rattle.svr_elab_target.proofs.chain.flat_names.Goals as goal

pub returns : goal.returns
returns c = turned_round c.in_ok-names.names.keys _ _ c.reverse.ensures.keys c.in_ok-names.ensures
