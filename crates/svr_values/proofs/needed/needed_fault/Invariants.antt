use Rattle.std.proofs.Common.{◌≡◌, true, [], map, take}
use Rattle.std.specs.List.{list_all}
use Rattle.svr_typed.specs.ExprTerm.{expr_term}
use Rattle.svr_eval.specs.Reading.{reading_of}
use Rattle.svr_eval.specs.Value.{alone, is_set}
use Rattle.svr_values.specs.Needed.{needed_of}
use Rattle.svr_values.proofs.needed.needed_fault.Given as goal

abbrev pub invariant-loop-at : goal.invariant-loop-at
invariant-loop-at l = list_all (λ e. is_set (alone (reading_of l.a) [] e)) (needed_of (take l.at (map expr_term l.items)) l.needed) ≡ true
