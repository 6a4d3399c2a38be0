use Rattle.std.proofs.Common.{arith}
use Rattle.svr_frame.specs.Frame.{frame_term}
use Rattle.svr_sized.proofs.Caps.{own_few, one_counted, all_counted}
use Rattle.svr_sized.proofs.bounds.all_own_items.Goals as goal

pub loop-slot-init : goal.loop-slot-init
loop-slot-init c = record { few = omega arith; sum = omega arith }

pub overflow_add-count : goal.overflow_add-count
overflow_add-count c = omega (arith, c.loop-slot.invariant.few, own_few (frame_term c.args.frame.now) _ _ c.own_items-count.ensures)

pub loop-slot-preserved : goal.loop-slot-preserved
loop-slot-preserved c =
    let f = frame_term c.args.frame.now in
    record {
      few = omega (arith, c.loop-slot.invariant.few, own_few f _ _ c.own_items-count.ensures);
      sum = one_counted f c.args.slots.now c.loop-slot.slot-index c.loop-slot.count c.own_items-count.result _ _ (omega arith) c.own_items-count.ensures c.loop-slot.invariant.sum;
    }

pub returns : goal.returns
returns c = all_counted (frame_term c.args.frame.now) c.args.slots.now c.loop-slot.slot-index c.loop-slot.count _ (omega arith) c.loop-slot.invariant.sum
