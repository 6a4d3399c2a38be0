use Rattle.std.proofs.Common.{length, ap, sym, ◌∙◌, map}
use Rattle.svr_chain.specs.Clauses.{flip}
use Rattle.svr_gate.specs.Numbers.{number}
use Rattle.svr_gate.proofs.Vectors.{GivesNumber-same, GivesNumber-self}
use Rattle.svr_eval.specs.Operator as spec
use Rattle.svr_vector.proofs.OperatorLemmas.{flipped_gives}
use Rattle.svr_vector.proofs.operator.changed.Goals as goal

pub returns-in_ok-flipped-in-Not-clause-value : goal.returns-in_ok-flipped-in-Not-clause-value
returns-in_ok-flipped-in-Not-clause-value c =
    GivesNumber-same (λ a. spec.change_of c.args.op (length c.args.x.items) (number a c.args.x.items))
    (flipped_gives c.args.x.items (c.in_ok-flipped-in-Not.ensures ∙ ap (map flip) c.deref-in-Not.ensures.value) (GivesNumber-self c.args.b.now c.args.x.items c.requires.within))
    (λ a m. ap (λ o. spec.change_of o (length c.args.x.items) (number a c.args.x.items)) (sym c.in-Not.is))
