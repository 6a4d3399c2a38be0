use Rattle.svr_elab_lawful_laws.proofs.Declarations.{classes_are_lawful}
use Rattle.svr_elab_lawful_laws.proofs.law.classes_are_lawful.Goals as goal

pub returns : goal.returns
returns c = classes_are_lawful
