use Rattle.std.proofs.Common.{◌≤◌, ◌++◌, ◌∷◌, [], ℕ, List, ◌∙◌, ap, length, drop, ◌+◌, arith}
use Rattle.svr_typed.specs.ItemTerm.{item_terms}
use Rattle.svr_item_names.specs.Names.{entry_names}
use Rattle.svr_item_names.proofs.Turns.{entry_turn, entry_end}
use Rattle.svr_item_names.proofs.names.append_names.Goals as goal

pub loop-place-preserved : goal.loop-place-preserved
loop-place-preserved c =
    let names = c.loop-place.names in
    let block = c.args.block.now in
    let items = c.args.items.now in
    let i = c.loop-place.place in
    ap (λ (ns : List (List ℕ)). ns ++ entry_names block (i + 1 + 1) (item_terms (drop (i + 1) items))) (c.in_ok-push.ensures.ok ∙ ap (λ (t : List ℕ). names ++ t ∷ []) c.in_ok-entry_name.ensures)
    ∙ entry_turn names block i items (omega arith)
    ∙ c.loop-place.invariant

pub returns : goal.returns
returns c =
    let past : length c.args.items.now ≤ c.loop-place.place = omega arith in
    entry_end c.loop-place.names _ c.args.block.now (c.loop-place.place + 1) c.loop-place.place c.args.items.now past c.loop-place.invariant
