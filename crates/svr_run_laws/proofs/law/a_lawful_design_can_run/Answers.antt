use Rattle.svr_run_laws.proofs.Reached.{lawful_can_run}
use Rattle.svr_run_laws.proofs.law.a_lawful_design_can_run.Goals as goal

pub returns : goal.returns
returns c = lawful_can_run
