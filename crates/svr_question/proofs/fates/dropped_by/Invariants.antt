use Rattle.std.proofs.Common.{◌≡◌, ◌++◌, map, reverse, length}
use Rattle.std.specs.Rc.{rc_slice_items}
use Rattle.svr_question.specs.Passed.{dropped_at}
use Rattle.svr_question.proofs.fates.dropped_by.Given as goal

abbrev pub invariant-loop-one : goal.invariant-loop-one
invariant-loop-one l = l.proved ++ map (dropped_at l.place (rc_slice_items l.common.base.now) l.soft l.kept) (reverse l.left) ≡ map (dropped_at l.place (rc_slice_items l.common.base.now) l.soft l.kept) l.fn.dropped.items

abbrev pub decreases-loop-one : goal.decreases-loop-one
decreases-loop-one l = length l.left
