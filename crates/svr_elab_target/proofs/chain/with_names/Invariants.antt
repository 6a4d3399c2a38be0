use Rattle.std.proofs.Common.{◌≡◌, ◌≤◌, map, length, reverse, take}
use Rattle.svr_elab_names.specs.Tables.{bytes_of}
use Rattle.svr_elab_target.specs.Blocks.{all_front}
use Rattle.svr_elab_target.proofs.chain.with_names.Given as goal

abbrev pub invariant-loop-left : goal.invariant-loop-left
invariant-loop-left l = record {
  within : l.left ≤ length l.own;
  told : all_front (reverse (map bytes_of l.names.keys)) (map bytes_of (take l.left l.own)) ≡ all_front (reverse (map bytes_of l.fn.names.keys)) (map bytes_of l.own);
}

abbrev pub decreases-loop-left : goal.decreases-loop-left
decreases-loop-left l = l.left
