use Rattle.std.proofs.Common.{◌∙◌, ◌+◌, ◌%◌, ◌^◌, ap, length, arith}
use Rattle.svr_gate.specs.Numbers.{bit, number}
use Rattle.svr_gate.proofs.Circuits.{later}
use Rattle.svr_gate.proofs.Vectors.{GivesNumber-take, GivesNumber-same}
use Rattle.svr_num.specs.Num.{add_of}
use Rattle.svr_arith.proofs.adder.add.Goals as goal

pub returns-in_err-sum-clause-extends : goal.returns-in_err-sum-clause-extends
returns-in_err-sum-clause-extends c = search later

pub returns-clause-extends : goal.returns-clause-extends
returns-clause-extends c = search later

pub returns-clause-value : goal.returns-clause-value
returns-clause-value c =
    rw c.truncate.ensures.items
    (GivesNumber-same (λ a. add_of (length c.args.x.now) (number a c.args.x.now) (number a c.args.y.now))
    (GivesNumber-take (length c.args.x.now) (omega arith) c.in_ok-sum.ensures.value)
    (λ a m. ap (λ b. (number a c.args.x.now + number a c.args.y.now + bit b) % 2 ^ length c.args.x.now) (c.in_ok-zero.ensures.value.value a (c.long_sum.ensures.extends.keeps a m))
    ∙ ap (λ n. n % 2 ^ length c.args.x.now) (omega arith)))
