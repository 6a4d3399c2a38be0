use Rattle.std.proofs.Common.{rules}
use Rattle.std.proofs.lemmas.List.{nil_from_length}
use Rattle.svr_cover_made.proofs.OneByOne.{first-points, next-points, all-points}
use Rattle.svr_cover_made.proofs.made.points_of.Goals as goal

pub plans-init : goal.plans-init
plans-init c = first-points c.args.plans.now _ (search rules)

pub plans-preserved : goal.plans-preserved
plans-preserved c =
    rw c.in_ok-keep.ensures (next-points c.args.plans.now c.plans.left.now c.plans.done c.in-Some.plan.now c.in-Some.others.now c.in_ok-point.point c.in-Some.ensures.cases.0 c.in_ok-point.ensures c.plans.invariant)

pub returns : goal.returns
returns c = all-points c.args.plans.now c.plans.left.now c.plans.done (nil_from_length c.plans.left.now c.in_default.ensures.cases) c.plans.invariant
