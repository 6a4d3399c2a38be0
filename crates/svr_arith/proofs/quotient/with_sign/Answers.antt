use Rattle.std.proofs.Common.{◌∙◌, ap, cond, length}
use Rattle.svr_chain.specs.Valuations.{lit_value}
use Rattle.svr_gate.specs.Numbers.{number}
use Rattle.svr_gate.proofs.Circuits.{later}
use Rattle.svr_gate.proofs.Vectors.{GivesNumber-same, GivesNumber-width}
use Rattle.svr_num.specs.Num.{neg_of}
use Rattle.svr_arith.proofs.quotient.with_sign.Goals as goal

pub returns-in_err-choose-clause-extends : goal.returns-in_err-choose-clause-extends
returns-in_err-choose-clause-extends c = search later

pub returns-clause-extends : goal.returns-clause-extends
returns-clause-extends c = search later

pub returns-clause-value : goal.returns-clause-value
returns-clause-value c =
    GivesNumber-same (λ a. cond (lit_value a c.args.sign) (neg_of (length c.args.x.now) (number a c.args.x.now)) (number a c.args.x.now))
    (GivesNumber-width (ap length c.deref.ensures.value ∙ c.in_ok-negated.ensures.value.len) c.in_ok-choose.ensures.value)
    (λ a m. ap (λ n. cond (lit_value a c.args.sign) n (number a c.args.x.now)) (ap (number a) c.deref.ensures.value ∙ c.in_ok-negated.ensures.value.value a (c.choose.ensures.extends.keeps a m)))
