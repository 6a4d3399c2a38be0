use Rattle.std.proofs.Common.{◌≡◌, ◌≤◌, [], ◌++◌, map, length, reverse, take}
use Rattle.svr_token.specs.Names.{names_of}
use Rattle.svr_elab_names.specs.Tables.{bytes_of}
use Rattle.svr_elab_block.specs.Blocks.{without}
use Rattle.svr_elab_block.proofs.inherit.and_back.Given as goal

abbrev pub invariant-loop-left : goal.invariant-loop-left
invariant-loop-left l = record {
  within : l.left ≤ length l.orders;
  told : without (names_of l.names) (map bytes_of l.own.keys) [] (take l.left l.orders) ++ reverse l.back.items
      ≡ without (names_of l.names) (map bytes_of l.own.keys) [] l.orders ++ reverse l.fn.back.items;
}

abbrev pub decreases-loop-left : goal.decreases-loop-left
decreases-loop-left l = l.left
