use Rattle.std.proofs.Common.{subst}
use Rattle.svr_gate.specs.Circuit.{Circuit}
use Rattle.svr_chain.specs.Settled.{AreSettled}
use Rattle.svr_gate.proofs.builder.Builder.finish.Goals as goal

pub returns-clause-settled : goal.returns-clause-settled
returns-clause-settled c = subst (λ (x : Circuit). AreSettled x.inputs x.vars x.clauses) c.self.view_is c.self.invariant.settled
