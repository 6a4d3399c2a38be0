use Rattle.std.proofs.Common.{None, refl}
use Rattle.svr_tree.proofs.Selects.{selected}
use Rattle.svr_tree.proofs.expr.Expr.bit_select.Goals as goal

pub returns-in-Some : goal.returns-in-Some
returns-in-Some c =
    let boxed = c.in-Some.ensures in
    selected c.args.at c.args.base c.args.index _ _ None None c.args.call boxed.first boxed.second refl
