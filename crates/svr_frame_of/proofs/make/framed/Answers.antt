use Rattle.std.proofs.Common.{◌≡◌, List, Ok, ◌∙◌, ap}
use Rattle.svr_typed.specs.declared.class.Prop.{Prop}
use Rattle.svr_typed.specs.declared.class.TBlock.{TBlock}
use Rattle.svr_typed.specs.declared.item.TItem.{TItem}
use Rattle.svr_typed.specs.ItemTerm.{item_terms}
use Rattle.svr_typed.specs.ClassTerm.{block_terms, flat_term}
use Rattle.svr_world.specs.World.{object_of}
use Rattle.svr_frame.specs.Making.{random_set, active_items}
use Rattle.svr_frame_of.proofs.make.framed.Goals as goal

pub returns : goal.returns
returns c =
    let call = c.args.call.now in
    let x = object_of c.args.world.now call.object in
    let y = c.in_ok-state in
    let state : c.state_of.result ≡ Ok y.state = rw y.ensures.first at c.both-numbers.ensures.first in
    let random : c.random_set.result ≡ Ok y.random = rw y.ensures.first at c.both-numbers.ensures.second in
    let items : c.active_items-items.result ≡ Ok y.items = rw y.ensures.second at c.both.ensures.first in
    let copies : c.both-copies.result ≡ Ok (y.class, y.enums) = rw y.ensures.second at c.both.ensures.second in
    let own : c.copy_class.result ≡ Ok y.class = rw copies at c.both-copies.ensures.first in
    let enums : c.copy_list.result ≡ Ok y.enums = rw copies at c.both-copies.ensures.second in
    let is_state = rw state at c.state_of.ensures in
    let is_class = rw own at c.copy_class.ensures in
    let is_enums = (rw enums at c.copy_list.ensures) ∙ c.as_slice-kinds.ensures in
    let is_random = (rw random at c.random_set.ensures) ∙ ap (λ (ps : List Prop). random_set ps x.rand_modes call.list) c.as_slice-props.ensures in
    let with_blocks = ap (λ (bs : List TBlock). active_items (block_terms bs) x.block_modes (item_terms c.as_slice-in_line.result.now)) c.as_slice-blocks.ensures in
    let with_own = ap (λ (is : List TItem). active_items (block_terms c.args.class.now.blocks) x.block_modes (item_terms is)) c.as_slice-in_line.ensures in
    let is_items = (rw items at c.active_items-items.ensures) ∙ with_blocks ∙ with_own in
    λ i. record {
      class = flat_term (is_class i);
      enums = is_enums i;
      state = is_state i;
      random = is_random i;
      free_size = c.new-free_size.ensures i;
      items = is_items i;
    }
