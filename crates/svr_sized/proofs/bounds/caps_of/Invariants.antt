use Rattle.std.proofs.Common.{◌≡◌, map}
use Rattle.std.specs.Prelude.{filter}
use Rattle.std.specs.List.{range_with_len}
use Rattle.svr_typed.specs.ExprTerm.{expr_term}
use Rattle.svr_frame.specs.Frame.{frame_term, has_free_size}
use Rattle.svr_sized.specs.Bounds.{at_most_expr}
use Rattle.svr_sized.proofs.bounds.caps_of.Given as goal

abbrev pub invariant-loop-prop : goal.invariant-loop-prop
invariant-loop-prop l = map expr_term l.caps ≡ map (at_most_expr l.cap) (filter (has_free_size (frame_term l.frame)) (range_with_len 0 l.prop))
