use Rattle.std.proofs.Common.{map, reverse}
use Rattle.svr_elab_names.specs.Tables.{class_of, bytes_of}
use Rattle.svr_elab_target.specs.Blocks.{class_blocks}
use Rattle.svr_elab_target.proofs.Chains.{Gathered, count_to}
use Rattle.svr_elab_target.proofs.chain.names_back.Given as goal

abbrev pub invariant-up : goal.invariant-up
invariant-up l = Gathered (map class_of l.classes) (reverse (map bytes_of l.names.keys)) l.next (class_blocks (map class_of l.classes) l.fn.class)

abbrev pub decreases-up : goal.decreases-up
decreases-up l = count_to l.next
