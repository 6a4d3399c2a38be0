use Rattle.std.proofs.Common.{◌≡◌, true, false, length, replicate, set, refl, ap, ◌∙◌, arith}
use Rattle.std.proofs.lemmas.List.{length-replicate}
use Rattle.svr_frame.specs.Satisfaction.{kept_ranks}
use Rattle.svr_question.proofs.Ranks.{no_fates, fate_more}
use Rattle.svr_question.proofs.fates.fates_of.Goals as goal

pub loop-rank-init : goal.loop-rank-init
loop-rank-init c =
    let none : c.in_ok-fates.fates.items ≡ replicate c.args.count false = c.in_ok-fates.ensures.items_if_clones_equal (λ y e. e) in
    record { long = ap length none ∙ length-replicate c.args.count false; ranks = ap (kept_ranks 1) none ∙ no_fates 1 c.args.count }

pub loop-rank-preserved : goal.loop-rank-preserved
loop-rank-preserved c =
    let at = c.saturating_sub-at.result in
    let more = fate_more c.args.count c.args.kept.now c.loop-rank.rank-index at c.loop-rank.fates.items (set c.loop-rank.fates.items at true) c.requires c.loop-rank-test.true
    (omega (arith, c.saturating_sub-at.ensures)) c.loop-rank.invariant.long c.loop-rank.invariant.ranks refl in
    record { long = more.1; ranks = more.2 }
