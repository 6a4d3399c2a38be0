use Rattle.std.proofs.Common.{map, length}
use Rattle.svr_typed.specs.ClassTerm.{block_terms, class_terms}
use Rattle.svr_flat.specs.Named.{bytes_of}
use Rattle.svr_flat.specs.Along.{blocks_along}
use Rattle.svr_flat.proofs.Stacked.{Gathered}
use Rattle.svr_flat.proofs.standing.upward.Given as goal

abbrev pub invariant-classes : goal.invariant-classes
invariant-classes l =
    Gathered (map bytes_of l.names.keys) (blocks_along (class_terms l.classes) l.left (block_terms l.above)) (map block_terms l.kept.items) (blocks_along (class_terms l.classes) l.lineage (block_terms l.base))

abbrev pub decreases-classes : goal.decreases-classes
decreases-classes l = length l.left
