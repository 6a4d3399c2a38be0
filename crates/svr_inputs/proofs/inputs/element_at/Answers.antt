use Rattle.svr_gate.proofs.Circuits.{later}
use Rattle.svr_inputs.proofs.inputs.element_at.Goals as goal

pub returns-in_err-extend-clause-extends : goal.returns-in_err-extend-clause-extends
returns-in_err-extend-clause-extends c = search later

pub returns-clause-extends : goal.returns-clause-extends
returns-clause-extends c = search later
