use Rattle.std.specs.Int.{w128}
use Rattle.std.proofs.Common.{◌==◌, ◌&&◌, ◌||◌, ◌∙◌, ap, to_z, of_z}
use Rattle.std.proofs.lemmas.Int.{to_z-of_z}
use Rattle.std.specs.Ordering.{int_eq}
use Rattle.std.specs.HashSet.{contains}
use Rattle.svr_expand.specs.Targeted.{same_element}
use Rattle.svr_expand.proofs.TargetSets.{cond_or}
use Rattle.svr_expand.proofs.targets.insert_element.Goals as goal

pub returns-in-Ok : goal.returns-in-Ok
returns-in-Ok c =
    let e = to_z-of_z w128 c.args.index c.ranges.index in
    λ q w. c.in-Ok.ensures.updates.0 (q, w) ∙ cond_or ((c.args.prop == q) && int_eq (to_z w128 (of_z w128 c.args.index)) w) (contains same_element c.args.set.now (q, w)) ∙ ap (λ i. contains same_element c.args.set.now (q, w) || ((c.args.prop == q) && int_eq i w)) e
