use Rattle.svr_eval.specs.Reading.{reading_of}
use Rattle.svr_values.proofs.Lists.{row_more}
use Rattle.svr_values.proofs.numbers.row.Goals as goal

pub loop-index-preserved : goal.loop-index-preserved
loop-index-preserved c =
    row_more (λ i. (reading_of c.args.a.now).element c.args.prop i) c.loop-index.index c.element.result c.from.result c.loop-index.numbers _ c.in_ok-push.ensures.ok c.element.ensures c.from.ensures c.loop-index.invariant
