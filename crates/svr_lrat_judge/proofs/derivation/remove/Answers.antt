use Rattle.std.proofs.Common.{ap, ◌∙◌}
use Rattle.std.specs.Prelude.{is_some}
use Rattle.svr_lrat_judge.proofs.derivation.remove.Goals as goal

pub returns-clause-rest : goal.returns-clause-rest
returns-clause-rest c = λ i q. c.swap_remove.ensures.updates.0 q i

pub returns-clause-live : goal.returns-clause-live
returns-clause-live c = c.is_some.ensures ∙ ap is_some c.swap_remove.ensures.value
