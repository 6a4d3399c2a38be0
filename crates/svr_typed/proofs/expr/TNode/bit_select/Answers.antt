use Rattle.std.proofs.Common.{None, refl}
use Rattle.svr_typed.proofs.Selects.{selected}
use Rattle.svr_typed.proofs.expr.TNode.bit_select.Goals as goal

pub returns-in-Some : goal.returns-in-Some
returns-in-Some c =
    let boxed = c.in-Some.ensures in
    selected c.args.base c.args.index _ _ None None c.args.low c.ranges.low boxed.first boxed.second refl
