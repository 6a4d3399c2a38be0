use Rattle.std.proofs.Common.{◌-◌, List, length, cond, get_or, subst, true, false}
use Rattle.std.proofs.lemmas.Result.{IfOk-weaker}
use Rattle.svr_chain.specs.declared.clause.Lit.{Lit}
use Rattle.svr_chain.specs.Valuations.{lit_value}
use Rattle.svr_gate.specs.Numbers.{number}
use Rattle.svr_gate.specs.Circuit.{GivesNumber}
use Rattle.svr_gate.proofs.Circuits.{later}
use Rattle.svr_num.specs.Num.{neg_of, rem_of}
use Rattle.svr_arith.proofs.SignedLemmas.{signed_remainder_gives}
use Rattle.svr_arith.proofs.quotient.signed_remainder.Goals as goal

pub returns-in_err-divisor-clause-extends : goal.returns-in_err-divisor-clause-extends
returns-in_err-divisor-clause-extends c = search later

pub returns-in_err-remainder-clause-extends : goal.returns-in_err-remainder-clause-extends
returns-in_err-remainder-clause-extends c = search later

pub returns-clause-extends : goal.returns-clause-extends
returns-clause-extends c = search later

pub returns-clause-value : goal.returns-clause-value
returns-clause-value c =
    let d : Lit = record { var = 0; neg = false } in
    let sign = get_or c.args.x.now (length c.args.x.now - 1) d in
    let dividend = c.in_ok-dividend.dividend.items in
    let divisor = c.in_ok-divisor.divisor.items in
    let remainder = c.in_ok-remainder.remainder.items in
    IfOk-weaker c.with_sign.result
    (λ v. GivesNumber c.with_sign.new.b v.items (length c.deref-3.result.now) (λ a. cond (lit_value a sign) (neg_of (length c.deref-3.result.now) (number a c.deref-3.result.now)) (number a c.deref-3.result.now)))
    (λ v. GivesNumber c.with_sign.new.b v.items (length c.args.x.now) (λ a. rem_of true (length c.args.x.now) (number a c.args.x.now) (number a c.args.y.now)))
    (λ v g.
    signed_remainder_gives c.magnitude.new.b c.magnitude-2.new.b c.remainder.new.b c.with_sign.new.b c.args.x.now c.args.y.now dividend divisor d c.requires.some c.requires.len
    c.magnitude-2.ensures.extends c.remainder.ensures.extends c.with_sign.ensures.extends c.in_ok-dividend.ensures.value c.in_ok-divisor.ensures.value
    remainder v.items
    (subst (λ (ls : List Lit). GivesNumber c.remainder.new.b remainder (length ls) (λ a. rem_of false (length ls) (number a ls) (number a divisor))) c.deref.ensures.value
    (subst (λ (ls : List Lit). GivesNumber c.remainder.new.b remainder (length c.deref.result.now) (λ a. rem_of false (length c.deref.result.now) (number a c.deref.result.now) (number a ls))) c.deref-2.ensures.value c.in_ok-remainder.ensures.value))
    (subst (λ (ls : List Lit). GivesNumber c.with_sign.new.b v.items (length ls) (λ a. cond (lit_value a sign) (neg_of (length ls) (number a ls)) (number a ls))) c.deref-3.ensures.value g))
    c.with_sign.ensures.value
