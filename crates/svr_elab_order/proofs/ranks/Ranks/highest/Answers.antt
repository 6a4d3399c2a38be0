use Rattle.std.proofs.Common.{arith}
use Rattle.svr_elab_order.proofs.Ranked.{none_higher, higher_step}
use Rattle.svr_elab_order.proofs.ranks.Ranks.highest.Goals as goal

pub loop-number-init : goal.loop-number-init
loop-number-init c = λ later. none_higher c.args.self.now later

pub loop-number-preserved : goal.loop-number-preserved
loop-number-preserved c =
    higher_step c.args.self.now c.args.numbers.now c.loop-number.number-index c.loop-number.high c.higher-high.result c.rank_of.result
    (omega arith) c.rank_of.ensures c.higher-high.ensures c.loop-number.invariant
