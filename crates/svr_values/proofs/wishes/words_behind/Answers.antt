use Rattle.std.proofs.Common.{ap, ◌∙◌}
use Rattle.svr_draw.specs.Words.{generator, after}
use Rattle.svr_draw.proofs.Stream.{after_one}
use Rattle.svr_values.proofs.wishes.words_behind.Goals as goal

pub loop-place-preserved : goal.loop-place-preserved
loop-place-preserved c = c.word.ensures.left ∙ ap (after 1) c.loop-place.invariant ∙ after_one c.loop-place._place (generator c.args.seed c.args.number)
