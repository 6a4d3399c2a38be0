use Rattle.svr_coverage.proofs.Named.{one_nothing}
use Rattle.svr_coverage.proofs.classes.nothing_of_each.Goals as goal

pub classes-preserved : goal.classes-preserved
classes-preserved c = one_nothing _ _ c.nothing.result c.classes.left.now _ c.in-Some.others.now _ c.in_ok-keep.ensures c.nothing.ensures c.in-Some.ensures.cases.0 c.classes.invariant
