use Rattle.std.proofs.Common.{◌≡◌, drop}
use Rattle.svr_typed.specs.ItemTerm.{item_terms}
use Rattle.svr_typed.specs.ClassTerm.{block_terms}
use Rattle.svr_world.specs.World.{object_of}
use Rattle.svr_frame.specs.Making.{followed_by, active_items}
use Rattle.svr_frame_of.proofs.object.active_items.Given as goal

abbrev pub invariant-loop-place : goal.invariant-loop-place
invariant-loop-place l = followed_by (item_terms l.active) (active_items (block_terms (drop l.place l.blocks)) (drop l.place (object_of l.world l.object).block_modes) (item_terms l.in_line))
    ≡ active_items (block_terms l.blocks) (object_of l.world l.object).block_modes (item_terms l.in_line)
