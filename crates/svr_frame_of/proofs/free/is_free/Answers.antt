use Rattle.std.proofs.Common.{sym, ◌∙◌, ap}
use Rattle.svr_typed.specs.ItemTerm.{item_terms}
use Rattle.svr_frame.specs.Frame.{frame_term}
use Rattle.svr_frame_of.specs.declared.leaves.Leaves.{Leaves}
use Rattle.svr_frame_of.proofs.Chosen.{chosen_by_leaves}
use Rattle.svr_frame_of.proofs.free.is_free.Goals as goal

pub returns-clause-free : goal.returns-clause-free
returns-clause-free c =
    chosen_by_leaves (frame_term c.args.frame.now) c.args.prop c.args.count c.in_ok-frame.field-0 (item_terms c.as_slice.result.now) c.all_leaves.result.sized c.requires.below c.in_ok-frame.ensures (ap item_terms c.as_slice.ensures)
    (sym c.can_change.ensures ∙ c.if-not-can_change.false) (ap (λ (x : Leaves). x.sized) c.all_leaves.ensures)
