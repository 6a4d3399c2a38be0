use Rattle.svr_elab_lawful_laws.proofs.Counts.{statements_are_few}
use Rattle.svr_elab_lawful_laws.proofs.law.statements_are_few.Goals as goal

pub returns : goal.returns
returns c = statements_are_few
