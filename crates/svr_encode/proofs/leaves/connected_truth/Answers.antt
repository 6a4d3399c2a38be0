use Rattle.svr_gate.proofs.Circuits.{later}
use Rattle.svr_encode.proofs.leaves.connected_truth.Goals as goal

pub returns-in_err-q-clause-extends : goal.returns-in_err-q-clause-extends
returns-in_err-q-clause-extends c = search later

pub returns-in_err-told-clause-extends : goal.returns-in_err-told-clause-extends
returns-in_err-told-clause-extends c = search later

pub returns-clause-extends : goal.returns-clause-extends
returns-clause-extends c = search later
