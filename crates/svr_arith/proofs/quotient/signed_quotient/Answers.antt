use Rattle.std.proofs.Common.{List, length, cond, subst, true, false}
use Rattle.std.proofs.lemmas.Result.{IfOk-weaker}
use Rattle.svr_chain.specs.declared.clause.Lit.{Lit}
use Rattle.svr_chain.specs.Valuations.{lit_value}
use Rattle.svr_gate.specs.Numbers.{number}
use Rattle.svr_gate.specs.Circuit.{GivesNumber}
use Rattle.svr_gate.proofs.Circuits.{later}
use Rattle.svr_num.specs.Num.{neg_of, div_of}
use Rattle.svr_arith.proofs.SignedLemmas.{signed_quotient_gives}
use Rattle.svr_arith.proofs.quotient.signed_quotient.Goals as goal

pub returns-in_err-divisor-clause-extends : goal.returns-in_err-divisor-clause-extends
returns-in_err-divisor-clause-extends c = search later

pub returns-in_err-quotient-clause-extends : goal.returns-in_err-quotient-clause-extends
returns-in_err-quotient-clause-extends c = search later

pub returns-in_err-sign-clause-extends : goal.returns-in_err-sign-clause-extends
returns-in_err-sign-clause-extends c = search later

pub returns-clause-extends : goal.returns-clause-extends
returns-clause-extends c = search later

pub returns-clause-value : goal.returns-clause-value
returns-clause-value c =
    let dividend = c.in_ok-dividend.dividend.items in
    let divisor = c.in_ok-divisor.divisor.items in
    let quotient = c.in_ok-quotient.quotient.items in
    IfOk-weaker c.with_sign.result
    (λ v. GivesNumber c.with_sign.new.b v.items (length c.deref-3.result.now) (λ a. cond (lit_value a c.in_ok-sign.sign) (neg_of (length c.deref-3.result.now) (number a c.deref-3.result.now)) (number a c.deref-3.result.now)))
    (λ v. GivesNumber c.with_sign.new.b v.items (length c.args.x.now) (λ a. div_of true (length c.args.x.now) (number a c.args.x.now) (number a c.args.y.now)))
    (λ v g.
    signed_quotient_gives c.magnitude.new.b c.magnitude-2.new.b c.quotient.new.b c.define.new.self c.args.x.now c.args.y.now dividend divisor (record { var = 0; neg = false }) c.requires.some c.requires.len
    c.magnitude-2.ensures.extends c.quotient.ensures.extends c.define.ensures.extends c.in_ok-dividend.ensures.value c.in_ok-divisor.ensures.value
    c.with_sign.new.b c.with_sign.ensures.extends quotient v.items c.in_ok-sign.sign
    (subst (λ (ls : List Lit). GivesNumber c.quotient.new.b quotient (length ls) (λ a. div_of false (length ls) (number a ls) (number a divisor))) c.deref.ensures.value
    (subst (λ (ls : List Lit). GivesNumber c.quotient.new.b quotient (length c.deref.result.now) (λ a. div_of false (length c.deref.result.now) (number a c.deref.result.now) (number a ls))) c.deref-2.ensures.value c.in_ok-quotient.ensures.value))
    c.in_ok-sign.ensures.value
    (subst (λ (ls : List Lit). GivesNumber c.with_sign.new.b v.items (length ls) (λ a. cond (lit_value a c.in_ok-sign.sign) (neg_of (length ls) (number a ls)) (number a ls))) c.deref-3.ensures.value g))
    c.with_sign.ensures.value
