use Rattle.svr_run_laws.proofs.Reached.{lawful_is_sampled}
use Rattle.svr_run_laws.proofs.law.a_lawful_design_is_sampled.Goals as goal

pub returns : goal.returns
returns c = lawful_is_sampled
