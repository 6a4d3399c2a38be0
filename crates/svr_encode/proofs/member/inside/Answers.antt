use Rattle.svr_gate.proofs.Circuits.{later}
use Rattle.svr_encode.proofs.member.inside.Goals as goal

pub returns-clause-extends : goal.returns-clause-extends
returns-clause-extends c = search later
