use Rattle.svr_elab_lawful_laws.proofs.There.{accepted_has_design}
use Rattle.svr_elab_lawful_laws.proofs.law.accepted_has_design.Goals as goal

pub returns : goal.returns
returns c = accepted_has_design
