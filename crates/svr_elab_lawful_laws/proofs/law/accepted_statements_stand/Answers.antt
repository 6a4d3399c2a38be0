use Rattle.svr_elab_lawful_laws.proofs.Walks.{accepted_statements_stand}
use Rattle.svr_elab_lawful_laws.proofs.law.accepted_statements_stand.Goals as goal

pub returns : goal.returns
returns c = accepted_statements_stand
