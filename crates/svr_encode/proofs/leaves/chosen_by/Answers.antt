use Rattle.svr_gate.proofs.Circuits.{later}
use Rattle.svr_encode.proofs.leaves.chosen_by.Goals as goal

pub returns-in_err-choose-clause-extends : goal.returns-in_err-choose-clause-extends
returns-in_err-choose-clause-extends c = search later

pub returns-clause-extends : goal.returns-clause-extends
returns-clause-extends c = search later
