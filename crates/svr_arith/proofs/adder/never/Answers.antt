use Rattle.svr_gate.proofs.TableLemmas.{Tells-never}
use Rattle.svr_arith.proofs.adder.never.Goals as goal

pub returns-clause-value : goal.returns-clause-value
returns-clause-value c = Tells-never c.in_ok-define.ensures.value
