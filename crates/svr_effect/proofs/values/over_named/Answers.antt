use Rattle.std.proofs.Common.{◌≡◌, subst}
use Rattle.std.specs.Prelude.{IfOk}
use Rattle.svr_typed.specs.ExprTerm.{ExprTerm, expr_term}
use Rattle.svr_eval.specs.Reading.{reading_of}
use Rattle.svr_effect.specs.Mentions.{mentions, nothing, by_places, reading_at}
use Rattle.svr_effect.proofs.values.over_named.Goals as goal

pub returns-clause-expr : goal.returns-clause-expr
returns-clause-expr c = subst (λ (x : ExprTerm). IfOk c.placed_over-placed.result (λ p. expr_term p.expr ≡ by_places (mentions nothing x) x)) c.in_ok-over_all.ensures c.placed_over-placed.ensures.expr

pub returns-clause-objects : goal.returns-clause-objects
returns-clause-objects c =
    subst (λ (x : ExprTerm). IfOk c.placed_over-placed.result (λ p. reading_of p.objects ≡ reading_at c.args.world.now (mentions nothing x))) c.in_ok-over_all.ensures c.placed_over-placed.ensures.objects
