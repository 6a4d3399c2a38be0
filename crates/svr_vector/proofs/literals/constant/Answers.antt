use Rattle.std.proofs.Common.{sym, subst}
use Rattle.svr_chain.specs.declared.clause.Lit.{Lit}
use Rattle.svr_gate.specs.Circuit.{Tells}
use Rattle.svr_gate.proofs.TableLemmas.{Tells-always}
use Rattle.svr_vector.proofs.LiteralLemmas.{chosen_tells}
use Rattle.svr_vector.proofs.literals.constant.Goals as goal

pub returns-clause-value : goal.returns-clause-value
returns-clause-value c =
    subst (λ (l : Lit). Tells c.define.new.self l (λ a. c.args.value)) (sym c.chosen.ensures)
    (chosen_tells c.define.new.self c.in_ok-one.one c.args.value (Tells-always c.in_ok-one.ensures.value))
