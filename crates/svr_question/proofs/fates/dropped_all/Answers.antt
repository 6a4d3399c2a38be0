use Rattle.std.proofs.Common.{◌≡◌, List, map, ◌∙◌, subst}
use Rattle.std.specs.Prelude.{IfOk}
use Rattle.svr_chain.specs.declared.clause.Lit.{Lit}
use Rattle.svr_call.specs.declared.outcome.Dropped.{Dropped}
use Rattle.svr_question.specs.Passed.{dropped_at}
use Rattle.svr_question.proofs.fates.dropped_all.Goals as goal

pub dropped_by-requires-clause-literals : goal.dropped_by-requires-clause-literals
dropped_by-requires-clause-literals c = c.in_ok-literals.ensures ∙ c.in_ok-kept_literals.ensures

pub returns : goal.returns
returns c =
    subst (λ (ls : List Lit). IfOk c.dropped_by.result (λ (ds : List Dropped). ds ≡ map (dropped_at c.args.place ls c.args.soft.now c.args.kept.now) c.args.dropped.items)) c.in_ok-base.ensures.ok c.dropped_by.ensures
