use Rattle.svr_elab_whole_laws.proofs.Whole.{accepted_blocks_stand}
use Rattle.svr_elab_whole_laws.proofs.law.accepted_blocks_stand.Goals as goal

pub returns : goal.returns
returns c = accepted_blocks_stand
