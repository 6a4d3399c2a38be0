use Rattle.svr_elab_unit.proofs.Runs.{nothing_valued}
use Rattle.svr_elab_unit.proofs.top.no_values.Goals as goal

pub returns-clause-value : goal.returns-clause-value
returns-clause-value c = λ made. nothing_valued made _ _ c.new.ensures.empty (c.no_stmts.ensures.value made)
