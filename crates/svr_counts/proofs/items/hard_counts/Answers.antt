use Rattle.std.proofs.Common.{List, sym, ap, ◌∙◌}
use Rattle.svr_typed.specs.declared.item.TItem.{TItem}
use Rattle.svr_typed.specs.ItemTerm.{item_terms}
use Rattle.svr_frame.specs.Frame.{frame_term}
use Rattle.svr_counts.specs.Counting.{numbers}
use Rattle.svr_counts.proofs.Counted.{all_counted}
use Rattle.svr_counts.proofs.items.hard_counts.Goals as goal

pub returns : goal.returns
returns c =
    let f = frame_term c.args.frame.now in
    let ns = c.args.sizes.now in
    c.in_ok-counts.ensures ∙ ap (λ (is : List TItem). numbers f ns (item_terms is)) c.as_slice-items.ensures ∙ sym (all_counted f ns)
