use Rattle.std.proofs.Common.{length, ap, sym, ◌∙◌, not, ◌%◌, eqb}
use Rattle.svr_gate.specs.Numbers.{number}
use Rattle.svr_gate.proofs.Circuits.{Tells-same}
use Rattle.svr_shape.proofs.ReductionLemmas.{any_number, all_number, count_number}
use Rattle.svr_eval.specs.Operator as spec
use Rattle.svr_vector.proofs.OperatorLemmas.{Tells-opposite, not_not}
use Rattle.svr_vector.proofs.operator.reduced.Goals as goal

pub returns-in_ok-all-in-And-clause-value : goal.returns-in_ok-all-in-And-clause-value
returns-in_ok-all-in-And-clause-value c =
    Tells-same (λ a. spec.reduction_of c.args.op (length c.args.x.now) (number a c.args.x.now)) c.in_ok-all-in-And.ensures.value
    (λ a m. all_number a c.args.x.now ∙ ap (λ o. spec.reduction_of o (length c.args.x.now) (number a c.args.x.now)) (sym c.in-And.is))

pub returns-in_ok-all-in-Nand-clause-value : goal.returns-in_ok-all-in-Nand-clause-value
returns-in_ok-all-in-Nand-clause-value c =
    Tells-opposite (λ a. spec.reduction_of c.args.op (length c.args.x.now) (number a c.args.x.now)) c.flipped.ensures c.in_ok-all-in-Nand.ensures.value
    (λ a. ap not (all_number a c.args.x.now) ∙ ap (λ o. spec.reduction_of o (length c.args.x.now) (number a c.args.x.now)) (sym c.in-Nand.is))

pub returns-in_ok-any-in-Or-clause-value : goal.returns-in_ok-any-in-Or-clause-value
returns-in_ok-any-in-Or-clause-value c =
    Tells-same (λ a. spec.reduction_of c.args.op (length c.args.x.now) (number a c.args.x.now)) c.in_ok-any-in-Or.ensures.value
    (λ a m. any_number a c.args.x.now ∙ ap (λ o. spec.reduction_of o (length c.args.x.now) (number a c.args.x.now)) (sym c.in-Or.is))

pub returns-in_ok-any-in-Nor-clause-value : goal.returns-in_ok-any-in-Nor-clause-value
returns-in_ok-any-in-Nor-clause-value c =
    Tells-opposite (λ a. spec.reduction_of c.args.op (length c.args.x.now) (number a c.args.x.now)) c.flipped-in-Nor.ensures c.in_ok-any-in-Nor.ensures.value
    (λ a. ap not (any_number a c.args.x.now) ∙ not_not (eqb (number a c.args.x.now) 0) ∙ ap (λ o. spec.reduction_of o (length c.args.x.now) (number a c.args.x.now)) (sym c.in-Nor.is))

pub returns-in_ok-odd-in-Xor-clause-value : goal.returns-in_ok-odd-in-Xor-clause-value
returns-in_ok-odd-in-Xor-clause-value c =
    Tells-same (λ a. spec.reduction_of c.args.op (length c.args.x.now) (number a c.args.x.now)) c.in_ok-odd-in-Xor.ensures.value
    (λ a m. ap (λ k. eqb (k % 2) 1) (count_number a c.args.x.now) ∙ ap (λ o. spec.reduction_of o (length c.args.x.now) (number a c.args.x.now)) (sym c.in-Xor.is))

pub returns-in_ok-odd-in-Xnor-clause-value : goal.returns-in_ok-odd-in-Xnor-clause-value
returns-in_ok-odd-in-Xnor-clause-value c =
    Tells-opposite (λ a. spec.reduction_of c.args.op (length c.args.x.now) (number a c.args.x.now)) c.flipped-in-Xnor.ensures c.in_ok-odd-in-Xnor.ensures.value
    (λ a. ap (λ k. not (eqb (k % 2) 1)) (count_number a c.args.x.now) ∙ ap (λ o. spec.reduction_of o (length c.args.x.now) (number a c.args.x.now)) (sym c.in-Xnor.is))
