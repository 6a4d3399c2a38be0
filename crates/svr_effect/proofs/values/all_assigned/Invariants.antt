use Rattle.std.proofs.Common.{◌≡◌, ◌++◌, drop}
use Rattle.svr_typed.specs.ExprTerm.{expr_terms}
use Rattle.svr_script.specs.Numbered.{reading_of_world}
use Rattle.svr_effect.specs.Computed.{all_assigned_over}
use Rattle.svr_effect.proofs.values.all_assigned.Given as goal

abbrev pub invariant-loop-e : goal.invariant-loop-e
invariant-loop-e l =
    l.numbers ++ all_assigned_over (reading_of_world l.world) l.width (expr_terms (drop l.e-index l.values)) ≡ all_assigned_over (reading_of_world l.world) l.width (expr_terms l.values)
