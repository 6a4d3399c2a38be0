use Rattle.std.proofs.Common.{ap, ◌∙◌, map}
use Rattle.svr_chain.specs.Clauses.{flip}
use Rattle.svr_vector.proofs.OperatorLemmas.{flipped_gives}
use Rattle.svr_vector.proofs.operator.agreement.Goals as goal

pub returns-clause-value : goal.returns-clause-value
returns-clause-value c = flipped_gives c.in_ok-unequal.unequal.items (c.in_ok-flipped.ensures ∙ ap (map flip) c.deref.ensures.value) c.in_ok-unequal.ensures.value
