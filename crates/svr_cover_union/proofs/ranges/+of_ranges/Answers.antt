use Rattle.std.proofs.lemmas.Result.{IfOk-weaker}
use Rattle.svr_cover_union.proofs.Made.{halves_ranges}
use Rattle.svr_cover_union.proofs.ranges.+of_ranges.Goals as goal

pub returns : goal.returns
returns t c =
    IfOk-weaker c.both.result _ _
    (λ r h v lt. halves_ranges c.args.bin v c.args.ranges.now c.split_at.result.0.now c.split_at.result.1.now r c.in_ok-first.first c.in_ok-second.second c.split_at.ensures.by_index.0 (c.in_ok-first.ensures v lt) (c.in_ok-second.ensures v lt) (h v))
    c.both.ensures
