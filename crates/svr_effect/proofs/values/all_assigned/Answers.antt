use Rattle.std.proofs.Common.{◌≡◌, ℕ, ◌+◌, List, ◌++◌, drop, ◌∙◌, ap, arith}
use Rattle.std.proofs.lemmas.Result.{IfOk-at_ok}
use Rattle.svr_typed.specs.ExprTerm.{expr_term, expr_terms}
use Rattle.svr_script.specs.Numbered.{reading_of_world}
use Rattle.svr_effect.specs.Computed.{assigned_over, all_assigned_over}
use Rattle.svr_effect.proofs.Computed.{one_computable, one_assigned}
use Rattle.svr_effect.proofs.values.all_assigned.Goals as goal

pub assigned-requires-clause-computed : goal.assigned-requires-clause-computed
assigned-requires-clause-computed c = one_computable (reading_of_world c.args.world.now) c.args.values.now c.loop-e.e-index c.e-item.result (omega arith) c.e-item.is c.requires.computed

pub loop-e-preserved : goal.loop-e-preserved
loop-e-preserved c =
    let r = reading_of_world c.args.world.now in
    let es = c.args.values.now in
    let more = c.in_ok-numbers.ensures in
    ap (λ (ns : List ℕ). ns ++ all_assigned_over r c.args.width (expr_terms (drop (c.loop-e.e-index + 1) es))) more.2
    ∙ one_assigned r c.args.width es c.loop-e.e-index c.e-item.result c.loop-e.numbers more.0 (omega arith) c.e-item.is
    (IfOk-at_ok (λ v. v ≡ assigned_over r c.args.width (expr_term c.e-item.result)) more.1 c.assigned.ensures) c.loop-e.invariant
