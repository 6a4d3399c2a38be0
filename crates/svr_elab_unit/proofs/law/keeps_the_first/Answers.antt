use Rattle.svr_elab_unit.proofs.Shown.{kept_vars, kept_stmts}
use Rattle.svr_elab_unit.proofs.law.keeps_the_first.Goals as goal

pub returns-clause-vars : goal.returns-clause-vars
returns-clause-vars c = kept_vars

pub returns-clause-stmts : goal.returns-clause-stmts
returns-clause-stmts c = kept_stmts
