use Rattle.std.proofs.Common.{◌≡◌, ◌++◌, map, drop}
use Rattle.svr_typed.specs.ExprTerm.{expr_term}
use Rattle.svr_frame.specs.Frame.{frame_term}
use Rattle.svr_expand.specs.Domains.{all_slot_exprs}
use Rattle.svr_expand.proofs.domain.add_slot_items.Given as goal

abbrev pub invariant-loop-slot : goal.invariant-loop-slot
invariant-loop-slot l =
    map expr_term l.out ++ all_slot_exprs (frame_term l.frame) (drop l.slot-index l.slots) ≡ map expr_term l.initial.out ++ all_slot_exprs (frame_term l.frame) l.slots
