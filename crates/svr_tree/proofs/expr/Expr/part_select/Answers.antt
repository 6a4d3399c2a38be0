use Rattle.std.proofs.Common.{Some, ap}
use Rattle.svr_tree.proofs.Selects.{selected}
use Rattle.svr_tree.proofs.expr.Expr.part_select.Goals as goal

pub returns-in-Some : goal.returns-in-Some
returns-in-Some c =
    let boxed = c.in-Some.ensures in
    selected c.args.at c.args.base c.args.first _ _ (Some c.args.last) _ c.args.call boxed.first boxed.second (ap (λ x. Some x) boxed.third)
