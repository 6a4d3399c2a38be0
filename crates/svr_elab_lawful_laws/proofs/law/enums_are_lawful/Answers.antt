use Rattle.svr_elab_lawful_laws.proofs.Whole.{enums_are_lawful}
use Rattle.svr_elab_lawful_laws.proofs.law.enums_are_lawful.Goals as goal

pub returns : goal.returns
returns c = enums_are_lawful
