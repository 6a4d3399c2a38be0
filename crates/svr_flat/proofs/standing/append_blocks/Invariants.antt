use Rattle.std.proofs.Common.{◌≡◌, ◌++◌, take}
use Rattle.svr_flat.proofs.standing.append_blocks.Given as goal

abbrev pub invariant-loop-block : goal.invariant-loop-block
invariant-loop-block l = l.blocks.items ≡ l.fn.blocks.items ++ take l.block-index l.own
