use Rattle.std.proofs.Common.{[], ◌∷◌, ◌++◌, map, sym, ap, ◌∙◌, arith}
use Rattle.std.proofs.lemmas.List.{map_more, take_all}
use Rattle.svr_soft.specs.Kept.{lit_at}
use Rattle.svr_question.proofs.fates.literals_of.Goals as goal

pub loop-rank-preserved : goal.loop-rank-preserved
loop-rank-preserved c =
    c.in_ok-push.ensures.items ∙ (λ i. c.loop-rank.invariant i ++ c.lit_of.ensures i ∷ []) ∙ sym (map_more (lit_at c.args.soft.now) c.args.kept.now c.loop-rank.rank-index 0 (omega arith))

pub returns : goal.returns
returns c = c.loop-rank.invariant ∙ ap (map (lit_at c.args.soft.now)) (take_all c.loop-rank.rank-index c.args.kept.now (omega arith))
