use Rattle.std.proofs.Common.{map, reverse}
use Rattle.svr_token.specs.Names.{names_of}
use Rattle.svr_elab_names.specs.Tables.{bytes_of}
use Rattle.svr_elab_block.specs.Chain.{inherited, all_orders}
use Rattle.svr_elab_block.proofs.Chain.{Gathered, count_to}
use Rattle.svr_elab_block.proofs.inherit.inherited_back.Given as goal

abbrev pub invariant-up : goal.invariant-up
invariant-up l =
    Gathered (names_of l.names) l.chain (map bytes_of l.replaced.keys) l.next (reverse l.back.items) (inherited (names_of l.names) (all_orders (names_of l.names) l.chain) l.fn.base (map bytes_of l.own.keys))

abbrev pub decreases-up : goal.decreases-up
decreases-up l = count_to l.next
