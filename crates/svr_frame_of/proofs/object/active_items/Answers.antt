use Rattle.std.proofs.Common.{◌≤◌, ◌+◌, ◌++◌, List, sym, ◌∙◌, ap, length, drop, arith}
use Rattle.std.proofs.lemmas.List.{drop_all}
use Rattle.svr_typed.specs.declared.class.TBlock.{TBlock}
use Rattle.svr_typed.specs.declared.item.TItem.{TItem}
use Rattle.svr_typed.specs.ItemTerm.{item_terms}
use Rattle.svr_typed.specs.ClassTerm.{block_terms}
use Rattle.svr_world.specs.World.{object_of}
use Rattle.svr_frame.specs.Making.{followed_by, active_items}
use Rattle.svr_frame_of.proofs.Steps.{active_at_place, quiet_at_place, active_end}
use Rattle.svr_frame_of.proofs.object.active_items.Goals as goal
use Rattle.svr_frame_of.proofs.object.active_items.Goals.{then-block_mode+in_ok-active, else-block_mode}

pub loop-place-preserved : goal.loop-place-preserved
loop-place-preserved c =
    let blocks = c.args.blocks.now in
    let modes = (object_of c.args.world.now c.args.object).block_modes in
    let own = item_terms c.args.in_line.now in
    let i = c.loop-place.place in
    let active = c.loop-place.active in
    elim c.if-block_mode.branch [
      | then-block_mode+in_ok-active w ↦
          active_at_place active c.if-block_mode.active i c.index-blocks-place.result blocks modes own c.loop-place-test.true c.index-blocks-place.is (sym c.block_mode.ensures ∙ w.if-block_mode.true)
          (w.active-is ∙ w.in_ok-active.ensures ∙ ap (λ (is : List TItem). active ++ is) w.as_slice.ensures)
          ∙ c.loop-place.invariant
      | else-block_mode w ↦
          ap (λ (is : List TItem). followed_by (item_terms is) (active_items (block_terms (drop (i + 1) blocks)) (drop (i + 1) modes) own)) w.active-is
          ∙ quiet_at_place active i c.index-blocks-place.result blocks modes own c.loop-place-test.true c.index-blocks-place.is (sym c.block_mode.ensures ∙ w.if-block_mode.false)
          ∙ c.loop-place.invariant
    ]

pub returns : goal.returns
returns c =
    let blocks = c.args.blocks.now in
    let modes = (object_of c.args.world.now c.args.object).block_modes in
    let own = item_terms c.args.in_line.now in
    let i = c.loop-place.place in
    let active = c.loop-place.active in
    let past : length blocks ≤ i = omega (arith, c.loop-place-test.false) in
    let ended = sym (ap (λ (bs : List TBlock). followed_by (item_terms active) (active_items (block_terms bs) (drop i modes) own)) (drop_all i blocks past)) in
    active_end active c.in_ok-whole.whole c.args.in_line.now (active_items (block_terms blocks) modes own) (ended ∙ c.loop-place.invariant) c.in_ok-whole.ensures
