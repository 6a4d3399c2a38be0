use Rattle.svr_randomize.proofs.Ranks.{rank_more}
use Rattle.svr_randomize.proofs.values.all_ranks.Goals as goal

pub loop-place-preserved : goal.loop-place-preserved
loop-place-preserved c = rank_more c.loop-place.place c.loop-place.ranks _ c.in_ok-push.ensures.ok c.loop-place.invariant
