use Rattle.svr_elab.proofs.Drawn.{classes_end}
use Rattle.svr_elab.proofs.design.classes.Goals as goal

pub returns : goal.returns
returns c = classes_end _ _ c.args.names.now c.loop-each.each-index _ c.loop-each-test.false c.loop-each.invariant
