use Rattle.std.proofs.Common.{◌≡◌, ◌+◌, sym, ap, ◌∙◌, List, ◌∷◌, drop}
use Rattle.std.proofs.lemmas.List.{at_drop_more}
use Rattle.svr_typed.specs.declared.item.TItem.{TItem}
use Rattle.svr_typed.specs.ItemTerm.{item_term, item_terms}
use Rattle.svr_frame.specs.Frame.{frame_term}
use Rattle.svr_frame_of.specs.declared.leaves.Leaves.{Leaves}
use Rattle.svr_frame_of.specs.Freeing.{both, leaves, all_leaves}
use Rattle.svr_frame_of.proofs.Steps.{leaves_turn}
use Rattle.svr_frame_of.proofs.leaves.+leaves.Goals as goal

pub all_leaves-loop-item-preserved : goal.all_leaves-loop-item-preserved
all_leaves-loop-item-preserved t c =
    let f = frame_term c.args.frame.now in
    let items = c.args.items.now in
    let i = c.loop-item.item-index in
    let known = c.loop-item.known in
    let told = λ (is : List TItem). all_leaves f (item_terms is) in
    let own = leaves f (item_term c.item-item.result) in
    let rest = told (drop (i + 1) items) in
    let here : told (drop i items) ≡ both own rest = at_drop_more told items i c.item-item.result c.loop-item-test.true ∙ ap (λ (x : TItem). told (x ∷ drop (i + 1) items)) (sym c.item-item.is) in
    ap (λ (k : Leaves). both k rest) (c.and-known.ensures ∙ ap (both known) c.leaves_of.ensures)
    ∙ leaves_turn known own rest (told items) (ap (both known) (sym here) ∙ c.loop-item.invariant)
