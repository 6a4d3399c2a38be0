use Rattle.std.proofs.Common.{◌≡◌, true, [], map, take}
use Rattle.std.specs.List.{list_all}
use Rattle.svr_typed.specs.ExprTerm.{expr_term}
use Rattle.svr_eval.specs.Reading.{reading_of}
use Rattle.svr_eval.specs.Value.{alone, is_set}
use Rattle.svr_values.proofs.hold.all_hold.Given as goal

abbrev pub invariant-loop-item : goal.invariant-loop-item
invariant-loop-item l = list_all (λ e. is_set (alone (reading_of l.a) [] e)) (map expr_term (take l.item-index l.items)) ≡ true
