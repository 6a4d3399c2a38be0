use Rattle.std.proofs.Common.{refl}
use Rattle.svr_eval.specs.Reading.{reading_of}
use Rattle.svr_values.proofs.Lists.{row_more}
use Rattle.svr_sized.proofs.read.sizes_of.Goals as goal

pub loop-prop-preserved : goal.loop-prop-preserved
loop-prop-preserved c =
    row_more (reading_of c.args.a.now).size c.loop-prop.prop c.size.result c.loop-prop.prop c.loop-prop.sizes _ c.in_ok-push.ensures.ok c.size.ensures refl c.loop-prop.invariant
