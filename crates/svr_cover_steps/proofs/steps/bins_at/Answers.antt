use Rattle.std.proofs.Common.{◌∙◌, ap}
use Rattle.svr_cover_steps.specs.Steps.{last_bins}
use Rattle.svr_cover_steps.proofs.Halving.{at-place}
use Rattle.svr_cover_steps.proofs.steps.bins_at.Goals as goal

pub returns : goal.returns
returns c = c.last_bins.ensures ∙ ap (last_bins c.args.steps.now) c.below.ensures ∙ at-place c.args.steps.now c.args.value
