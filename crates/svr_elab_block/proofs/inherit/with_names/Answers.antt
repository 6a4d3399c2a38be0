use Rattle.std.proofs.Common.{arith}
use Rattle.svr_elab_block.proofs.Standing.{names_first, names_next, no_name}
use Rattle.svr_elab_block.proofs.inherit.with_names.Goals as goal

pub loop-name-init : goal.loop-name-init
loop-name-init c = names_first c.args.names.now.keys

pub loop-name-preserved : goal.loop-name-preserved
loop-name-preserved c =
    names_next c.args.names.now.keys c.loop-name.names.keys c.with_name.new.names.keys c.args.more.now c.loop-name.name-index no_name (omega arith) c.in_ok-with_name.ensures c.loop-name.invariant
