use Rattle.std.proofs.Common.{List, length, cond, subst, false}
use Rattle.std.proofs.lemmas.Result.{IfOk-weaker}
use Rattle.svr_chain.specs.declared.clause.Lit.{Lit}
use Rattle.svr_chain.specs.Valuations.{lit_value}
use Rattle.svr_gate.specs.Numbers.{number}
use Rattle.svr_gate.specs.Circuit.{GivesNumber}
use Rattle.svr_gate.proofs.Circuits.{later}
use Rattle.svr_num.specs.Num.{rem_of}
use Rattle.svr_arith.proofs.DivisionLemmas.{rest_gives}
use Rattle.svr_arith.proofs.division.remainder.Goals as goal

pub returns-clause-extends : goal.returns-clause-extends
returns-clause-extends c = search later

pub returns-clause-value : goal.returns-clause-value
returns-clause-value c =
    let division = c.in_ok-division.division in
    IfOk-weaker c.masked.result
    (λ v. GivesNumber c.masked.new.b v.items (length c.deref.result.now) (λ a. cond (lit_value a division.is_defined) (number a c.deref.result.now) 0))
    (λ v. GivesNumber c.masked.new.b v.items (length c.args.x.now) (λ a. rem_of false (length c.args.x.now) (number a c.args.x.now) (number a c.args.y.now)))
    (λ v g.
    rest_gives c.divide.new.b c.masked.new.b c.args.x.now c.args.y.now division.quotient.items division.rest.items division.is_defined c.in_ok-division.ensures.divides c.masked.ensures.extends c.in_ok-division.ensures.is_defined
    (subst (λ (ls : List Lit). GivesNumber c.masked.new.b v.items (length ls) (λ a. cond (lit_value a division.is_defined) (number a ls) 0)) c.deref.ensures.value g))
    c.masked.ensures.value
