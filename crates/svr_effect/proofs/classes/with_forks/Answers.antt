use Rattle.std.proofs.Common.{arith}
use Rattle.svr_effect.proofs.classes.with_forks.Goals as goal

pub classes-init : goal.classes-init
classes-init c = record { place = omega (arith, c.in_ok-at.ensures); kept = λ k h. h }

pub classes-preserved : goal.classes-preserved
classes-preserved c =
    let kept = c.classes.invariant.kept in
    record { place = omega (arith, c.classes.invariant.place, c.in-Some.ensures.cases.1); kept = λ k h. c.want_fork.ensures k (kept k h) }

pub returns : goal.returns
returns c = c.classes.invariant.kept
