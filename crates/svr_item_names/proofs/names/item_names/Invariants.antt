use Rattle.std.proofs.Common.{◌≡◌, ◌++◌, drop}
use Rattle.svr_typed.specs.ItemTerm.{item_terms}
use Rattle.svr_typed.specs.ClassTerm.{block_terms}
use Rattle.svr_world.specs.World.{object_of}
use Rattle.svr_item_names.specs.Names.{item_names}
use Rattle.svr_item_names.proofs.names.item_names.Given as goal

abbrev pub invariant-loop-place : goal.invariant-loop-place
invariant-loop-place l = l.names ++ item_names (block_terms (drop l.place l.blocks)) (drop l.place (object_of l.world l.object).block_modes) (item_terms l.in_line)
    ≡ item_names (block_terms l.blocks) (object_of l.world l.object).block_modes (item_terms l.in_line)
