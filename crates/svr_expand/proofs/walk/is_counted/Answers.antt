use Rattle.std.proofs.Common.{◌∙◌, ap}
use Rattle.svr_frame.specs.Frame.{frame_term}
use Rattle.svr_mention.specs.Mentioned.{counts_by}
use Rattle.svr_expand.proofs.Nested.{is_nested}
use Rattle.svr_expand.proofs.walk.is_counted.Goals as goal

pub returns : goal.returns
returns c =
    c.counts.ensures
    ∙ ap (λ b. counts_by (frame_term c.args.set.now.frame.now) c.args.set.now.part c.args.soft b c.args.mentions.now) (is_nested c.depth.result c.args.env.now c.depth.ensures.depth)
