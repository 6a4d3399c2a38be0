use Rattle.std.proofs.Common.{◌-◌, nat_abs, length, cond, get_or, false}
use Rattle.std.proofs.lemmas.Result.{IfOk-weaker}
use Rattle.svr_chain.specs.declared.clause.Lit.{Lit}
use Rattle.svr_chain.specs.Valuations.{lit_value}
use Rattle.svr_gate.specs.Numbers.{number}
use Rattle.svr_gate.specs.Circuit.{GivesNumber}
use Rattle.svr_num.specs.Num.{neg_of, signed_of}
use Rattle.svr_arith.proofs.SignedLemmas.{magnitude_gives}
use Rattle.svr_arith.proofs.quotient.magnitude.Goals as goal

pub returns-clause-value : goal.returns-clause-value
returns-clause-value c =
    let d : Lit = record { var = 0; neg = false } in
    let w = length c.args.x.now in
    IfOk-weaker c.with_sign.result
    (λ v. GivesNumber c.with_sign.new.b v.items w (λ a. cond (lit_value a (get_or c.args.x.now (w - 1) d)) (neg_of w (number a c.args.x.now)) (number a c.args.x.now)))
    (λ v. GivesNumber c.with_sign.new.b v.items w (λ a. nat_abs (signed_of w (number a c.args.x.now))))
    (λ v g. magnitude_gives c.args.x.now d c.requires.some g)
    c.with_sign.ensures.value
