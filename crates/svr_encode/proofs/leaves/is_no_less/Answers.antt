use Rattle.std.proofs.Common.{length, not, refl}
use Rattle.svr_gate.specs.Numbers.{number}
use Rattle.svr_num.specs.Num.{less_of}
use Rattle.svr_vector.proofs.OperatorLemmas.{Tells-opposite}
use Rattle.svr_encode.proofs.leaves.is_no_less.Goals as goal

pub returns-clause-value : goal.returns-clause-value
returns-clause-value c =
    Tells-opposite (λ v. not (less_of c.args.signed (length c.args.x.now) (number v c.args.x.now) (number v c.args.y.now))) c.flipped.ensures c.in_ok-is_less.ensures.value (λ v. refl)
