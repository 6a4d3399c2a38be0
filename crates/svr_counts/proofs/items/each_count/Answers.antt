use Rattle.std.proofs.Common.{arith}
use Rattle.svr_frame.specs.Frame.{frame_term}
use Rattle.svr_counts.proofs.Counted.{number_put, numbers_put, typed_rest}
use Rattle.svr_counts.proofs.items.each_count.Goals as goal

pub loop-item-preserved : goal.loop-item-preserved
loop-item-preserved c = record {
  typed = typed_rest c.args.items.now c.loop-item.item-index c.item-item.result (omega arith) c.loop-item.invariant.typed;
  told = number_put (frame_term c.args.frame.now) c.args.sizes.now c.args.items.now c.loop-item.item-index c.item-item.result c.in_ok-count.count c.loop-item.counts _ _ (omega arith) c.item-item.is c.in_ok-count.ensures
      c.in_ok-push.ensures.ok c.loop-item.invariant.told;
}

pub returns : goal.returns
returns c = numbers_put (frame_term c.args.frame.now) c.args.sizes.now c.args.items.now c.loop-item.item-index c.loop-item.counts _ (omega arith) c.loop-item.invariant.told
