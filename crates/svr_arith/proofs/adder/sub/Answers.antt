use Rattle.std.proofs.Common.{◌^◌, ◌<◌, sym, subst, length, arith, ℕ}
use Rattle.svr_gate.specs.Numbers.{number}
use Rattle.svr_gate.proofs.NumberLemmas.{number-lt}
use Rattle.svr_gate.proofs.Vectors.{GivesNumber-take, GivesNumber-same}
use Rattle.svr_num.specs.Num.{sub_of}
use Rattle.svr_num.proofs.NumLemmas.{sub_of_is}
use Rattle.svr_arith.proofs.adder.sub.Goals as goal

pub returns-clause-value : goal.returns-clause-value
returns-clause-value c =
    rw c.truncate.ensures.items
    (GivesNumber-same (λ a. sub_of (length c.args.x.now) (number a c.args.x.now) (number a c.args.y.now))
    (GivesNumber-take (length c.args.x.now) (omega arith) c.in_ok-difference.ensures.value)
    (λ a m. sub_of_is (length c.args.x.now) (number a c.args.x.now) (number a c.args.y.now) (number-lt a c.args.x.now) (subst (λ (n : ℕ). number a c.args.y.now < 2 ^ n) (sym c.requires.len) (number-lt a c.args.y.now))))
