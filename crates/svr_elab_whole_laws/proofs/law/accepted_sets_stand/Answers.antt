use Rattle.svr_elab_whole_laws.proofs.Whole.{accepted_sets_stand}
use Rattle.svr_elab_whole_laws.proofs.law.accepted_sets_stand.Goals as goal

pub returns : goal.returns
returns c = accepted_sets_stand
