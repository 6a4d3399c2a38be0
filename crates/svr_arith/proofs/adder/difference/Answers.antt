use Rattle.std.proofs.Common.{◌≡◌, ◌∙◌, ◌+◌, ◌-◌, ◌^◌, not, ap, length, map, arith}
use Rattle.std.proofs.lemmas.Result.{IfOk-weaker}
use Rattle.svr_chain.specs.Clauses.{flip}
use Rattle.svr_chain.specs.Valuations.{lit_value}
use Rattle.svr_gate.specs.Numbers.{bit, number}
use Rattle.svr_gate.specs.Circuit.{GivesNumber}
use Rattle.svr_gate.proofs.Circuits.{later, AreWithin-later}
use Rattle.svr_gate.proofs.NumberLemmas.{number-lt, number-flipped, lit_value-flip}
use Rattle.svr_gate.proofs.Vectors.{GivesNumber-same, GivesNumber-self, GivesNumber-flipped}
use Rattle.svr_arith.proofs.adder.difference.Goals as goal

pub long_sum-requires-clause-y_within : goal.long_sum-requires-clause-y_within
long_sum-requires-clause-y_within c =
    rw (c.deref.ensures.value, c.in_ok-complement.ensures) ((GivesNumber-flipped (GivesNumber-self c.never.new.b c.args.y.now (AreWithin-later c.args.y.now c.never.ensures.extends c.requires.y_within))).within)

pub returns-clause-extends : goal.returns-clause-extends
returns-clause-extends c = search later

pub returns-clause-value : goal.returns-clause-value
returns-clause-value c =
    let y : c.deref.result.now ≡ map flip c.args.y.now = c.deref.ensures.value ∙ c.in_ok-complement.ensures in
    IfOk-weaker c.long_sum.result
    (λ v. GivesNumber c.long_sum.new.b v.items (length c.args.x.now + 1) (λ a. number a c.args.x.now + number a c.deref.result.now + bit (lit_value a c.flipped.result)))
    (λ v. GivesNumber c.long_sum.new.b v.items (length c.args.x.now + 1) (λ a. number a c.args.x.now + (2 ^ length c.args.x.now - number a c.args.y.now)))
    (λ v g.
    GivesNumber-same (λ a. number a c.args.x.now + (2 ^ length c.args.x.now - number a c.args.y.now)) g
    (λ a m.
    let one : bit (lit_value a c.flipped.result) ≡ 1 = ap (λ l. bit (lit_value a l)) c.flipped.ensures ∙ ap bit (lit_value-flip a c.in_ok-zero.zero) ∙ ap (λ b. bit (not b)) (c.in_ok-zero.ensures.value.value a (c.long_sum.ensures.extends.keeps a m)) in
    omega (arith, one, ap (number a) y, number-flipped a c.args.y.now, number-lt a c.args.y.now, ap (λ n. 2 ^ n) c.requires.len)))
    c.long_sum.ensures.value
