use Rattle.std.proofs.Common.{◌∙◌, ap, cond}
use Rattle.svr_chain.specs.Valuations.{lit_value}
use Rattle.svr_gate.specs.Numbers.{number}
use Rattle.svr_gate.proofs.Circuits.{later}
use Rattle.svr_gate.proofs.Vectors.{GivesNumber-same}
use Rattle.svr_arith.proofs.product.masked.Goals as goal

pub returns-in_err-choose-clause-extends : goal.returns-in_err-choose-clause-extends
returns-in_err-choose-clause-extends c = search later

pub returns-clause-extends : goal.returns-clause-extends
returns-clause-extends c = search later

pub returns-clause-value : goal.returns-clause-value
returns-clause-value c =
    GivesNumber-same (λ a. cond (lit_value a c.args.test) (number a c.args.x.now) 0) c.in_ok-choose.ensures.value
    (λ a m. ap (cond (lit_value a c.args.test) (number a c.args.x.now)) (ap (number a) c.deref.ensures.value ∙ c.in_ok-zeros.ensures.value.value a (c.choose.ensures.extends.keeps a m)))
