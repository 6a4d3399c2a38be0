use Rattle.std.proofs.Common.{arith}
use Rattle.svr_shape.proofs.ChoiceLemmas.{one_chosen}
use Rattle.svr_shape.proofs.choice.choose_bit.Goals as goal

pub returns-then-are_same-clause-value : goal.returns-then-are_same-clause-value
returns-then-are_same-clause-value c =
    one_chosen c.args.b.now c.args.test c.args.x c.args.y (c.are_same.ensures c.if-are_same.true) (c.requires 1 c.args.x (omega arith))
