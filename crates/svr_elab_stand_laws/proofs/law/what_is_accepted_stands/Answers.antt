use Rattle.svr_elab_stand_laws.proofs.Whole.{accepted_stands}
use Rattle.svr_elab_stand_laws.proofs.law.what_is_accepted_stands.Goals as goal

pub returns : goal.returns
returns c = accepted_stands
