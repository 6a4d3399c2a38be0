use Rattle.svr_elab.proofs.Shown.{kept, told}
use Rattle.svr_elab.proofs.law.keeps_the_first.Goals as goal

pub returns-clause-same : goal.returns-clause-same
returns-clause-same c = kept

pub returns-clause-first : goal.returns-clause-first
returns-clause-first c = told
