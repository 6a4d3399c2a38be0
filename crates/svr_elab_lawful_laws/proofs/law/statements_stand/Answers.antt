use Rattle.svr_elab_lawful_laws.proofs.Initial.{statements_stand}
use Rattle.svr_elab_lawful_laws.proofs.Sets.{units_are_read}
use Rattle.svr_elab_lawful_laws.proofs.law.statements_stand.Goals as goal

pub returns-clause-stand : goal.returns-clause-stand
returns-clause-stand c = statements_stand

pub returns-clause-read : goal.returns-clause-read
returns-clause-read c = units_are_read
