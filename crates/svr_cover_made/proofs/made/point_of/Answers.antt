use Rattle.std.proofs.Common.{rules, refl}
use Rattle.svr_cover_made.proofs.OneByOne.{is-point}
use Rattle.svr_cover_made.proofs.made.point_of.Goals as goal

pub returns : goal.returns
returns c = is-point c.args.plan.now _ c.as_slice-values.result.now c.as_slice-values.ensures refl refl (search rules) c.in_ok-steps.ensures
