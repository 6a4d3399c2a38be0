use Rattle.svr_eval.proofs.Bits.{copy_fits}
use Rattle.svr_eval.proofs.parts.copied.Goals as goal

pub join-whole-requires : goal.join-whole-requires
join-whole-requires c =
    rw c.loop-made.invariant.width (copy_fits c.loop-made.made c.args.count c.args.part.width 64 c.loop-made-test.true c.requires.high)
