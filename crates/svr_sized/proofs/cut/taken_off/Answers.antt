use Rattle.std.proofs.Common.{◌∙◌, arith}
use Rattle.svr_sized.proofs.Turned.{some_left}
use Rattle.svr_sized.proofs.cut.taken_off.Goals as goal

pub move_last-requires : goal.move_last-requires
move_last-requires g c = omega (arith, c.requires, c.loop-place.invariant.count, some_left c.args.items c.loop-place.front c.loop-place.turned c.loop-place.invariant.whole)

pub loop-place-preserved : goal.loop-place-preserved
loop-place-preserved g c = record {
  whole = c.in_ok-move_last.ensures.whole ∙ c.loop-place.invariant.whole;
  count = omega (arith, c.in_ok-move_last.ensures.count, c.loop-place.invariant.count);
}
