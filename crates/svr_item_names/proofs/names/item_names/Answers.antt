use Rattle.std.proofs.Common.{◌≤◌, sym, ◌∙◌, length, drop, arith}
use Rattle.svr_typed.specs.ItemTerm.{item_terms}
use Rattle.svr_world.specs.World.{object_of}
use Rattle.svr_item_names.proofs.Turns.{named_turn, quiet_turn, named_end}
use Rattle.svr_item_names.proofs.names.item_names.Goals as goal
use Rattle.svr_item_names.proofs.names.item_names.Goals.{then-block_mode+in_ok-append_block, else-block_mode}

pub loop-place-preserved : goal.loop-place-preserved
loop-place-preserved c =
    let blocks = c.args.blocks.now in
    let modes = (object_of c.args.world.now c.args.object).block_modes in
    let own = item_terms c.args.in_line.now in
    let i = c.loop-place.place in
    let names = c.loop-place.names in
    elim c.if-block_mode.branch [
      | then-block_mode+in_ok-append_block w ↦
          named_turn names c.if-block_mode.names i c.index-blocks-place.result blocks modes own c.loop-place-test.true c.index-blocks-place.is (sym c.block_mode.ensures ∙ w.if-block_mode.true) (w.names-is ∙ w.in_ok-append_block.ensures)
          ∙ c.loop-place.invariant
      | else-block_mode w ↦
          quiet_turn names c.if-block_mode.names i c.index-blocks-place.result blocks modes own c.loop-place-test.true c.index-blocks-place.is (sym c.block_mode.ensures ∙ w.if-block_mode.false) w.names-is
          ∙ c.loop-place.invariant
    ]

pub returns : goal.returns
returns c =
    let modes = (object_of c.args.world.now c.args.object).block_modes in
    let i = c.loop-place.place in
    let past : length c.args.blocks.now ≤ i = omega (arith, c.loop-place-test.false) in
    named_end c.loop-place.names c.append_names.new.names _ i c.args.blocks.now (drop i modes) (item_terms c.args.in_line.now) past c.loop-place.invariant c.in_ok-append_names.ensures
