use Rattle.std.proofs.Common.{List, sym, subst}
use Rattle.svr_chain.specs.declared.clause.Lit.{Lit}
use Rattle.svr_gate.specs.Circuit.{GivesNumber}
use Rattle.svr_gate.proofs.Vectors.{GivesNumber-same, GivesNumber-replicate}
use Rattle.svr_eval.specs.Value as spec
use Rattle.svr_vector.proofs.LiteralLemmas.{every_bit}
use Rattle.svr_vector.proofs.literals.literal_at.Goals as goal

pub returns-clause-value : goal.returns-clause-value
returns-clause-value c =
    subst (λ (ls : List Lit). GivesNumber c.constant.new.b ls c.args.width (λ a. spec.literal c.args.width c.args.own c.args.signed c.args.every c.args.number)) (sym c.in_ok-repeated.ensures)
    (GivesNumber-same (λ a. spec.literal c.args.width c.args.own c.args.signed c.args.every c.args.number) (GivesNumber-replicate c.args.width c.in_ok-bit.ensures.value)
    (λ a m. every_bit c.args.width c.args.own c.args.signed c.args.every c.args.number c.if-not-every.false))
