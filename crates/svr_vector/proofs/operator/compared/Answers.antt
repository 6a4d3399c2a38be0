use Rattle.std.proofs.Common.{length, ap, sym, ◌∙◌, not}
use Rattle.svr_gate.specs.Numbers.{number}
use Rattle.svr_num.specs.Num.{less_of}
use Rattle.svr_eval.specs.Operator as spec
use Rattle.svr_vector.proofs.OperatorLemmas.{Tells-opposite}
use Rattle.svr_vector.proofs.operator.compared.Goals as goal

pub returns-in_ok-less-in-AtMost-clause-value : goal.returns-in_ok-less-in-AtMost-clause-value
returns-in_ok-less-in-AtMost-clause-value c =
    Tells-opposite (λ a. spec.comparison_of c.args.op (length c.args.x.now) c.args.signed (number a c.args.x.now) (number a c.args.y.now)) c.flipped.ensures c.in_ok-less-in-AtMost.ensures.value
    (λ a.
    ap (λ n. not (less_of c.args.signed n (number a c.args.y.now) (number a c.args.x.now))) (sym c.requires.len)
    ∙ ap (λ o. spec.comparison_of o (length c.args.x.now) c.args.signed (number a c.args.x.now) (number a c.args.y.now)) (sym c.in-AtMost.is))

pub returns-in_ok-less-in-AtLeast-clause-value : goal.returns-in_ok-less-in-AtLeast-clause-value
returns-in_ok-less-in-AtLeast-clause-value c =
    Tells-opposite (λ a. spec.comparison_of c.args.op (length c.args.x.now) c.args.signed (number a c.args.x.now) (number a c.args.y.now)) c.flipped-in-AtLeast.ensures c.in_ok-less-in-AtLeast.ensures.value
    (λ a. ap (λ o. spec.comparison_of o (length c.args.x.now) c.args.signed (number a c.args.x.now) (number a c.args.y.now)) (sym c.in-AtLeast.is))

pub returns-in_ok-equal-in-NotEqual-clause-value : goal.returns-in_ok-equal-in-NotEqual-clause-value
returns-in_ok-equal-in-NotEqual-clause-value c =
    Tells-opposite (λ a. spec.comparison_of c.args.op (length c.args.x.now) c.args.signed (number a c.args.x.now) (number a c.args.y.now)) c.flipped-in-NotEqual.ensures c.in_ok-equal-in-NotEqual.ensures.value
    (λ a. ap (λ o. spec.comparison_of o (length c.args.x.now) c.args.signed (number a c.args.x.now) (number a c.args.y.now)) (sym c.in-NotEqual.is))
