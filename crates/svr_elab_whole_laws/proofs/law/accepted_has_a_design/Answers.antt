use Rattle.svr_elab_whole_laws.proofs.Whole.{accepted_has_a_design}
use Rattle.svr_elab_whole_laws.proofs.law.accepted_has_a_design.Goals as goal

pub returns : goal.returns
returns c = accepted_has_a_design
