use Rattle.svr_elab_lawful_laws.proofs.Accepted.{accepted_is_lawful}
use Rattle.svr_elab_lawful_laws.proofs.law.accepted_is_lawful.Goals as goal

pub returns : goal.returns
returns c = accepted_is_lawful
