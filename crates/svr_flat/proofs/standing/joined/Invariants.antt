use Rattle.std.proofs.Common.{◌≡◌, ◌++◌, map, vec_len}
use Rattle.svr_typed.specs.ClassTerm.{block_terms}
use Rattle.svr_flat.specs.Along.{stacked}
use Rattle.svr_flat.proofs.standing.joined.Given as goal

abbrev pub invariant-loop-list : goal.invariant-loop-list
invariant-loop-list l = block_terms l.blocks ++ stacked (map block_terms l.lists.items) ≡ stacked (map block_terms l.fn.lists.items)

abbrev pub decreases-loop-list : goal.decreases-loop-list
decreases-loop-list l = vec_len l.lists
