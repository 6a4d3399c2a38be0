use Rattle.std.proofs.Common.{◌≡◌, ap, ◌∙◌}
use Rattle.std.proofs.lemmas.Result.{IfOk-at_ok}
use Rattle.svr_typed.specs.ExprTerm.{expr_term}
use Rattle.svr_eval.specs.Reading.{reading_of}
use Rattle.svr_effect.specs.Mentions.{Mentioned, mentions, by_places, reading_at}
use Rattle.svr_effect.specs.Named.{mentioned}
use Rattle.svr_effect.proofs.values.placed_over.Goals as goal

pub returns-clause-expr : goal.returns-clause-expr
returns-clause-expr c =
    let e = expr_term c.args.over_all.now in
    IfOk-at_ok (λ x. expr_term x ≡ by_places (mentioned c.in_ok-names.names) e) c.in_ok-expr.ensures.0 c.by_places.ensures
    ∙ ap (λ (m : Mentioned). by_places m e) c.in_ok-names.ensures
    ∙ ap (λ (m : Mentioned). by_places (mentions m e) e) c.new.ensures

pub returns-clause-objects : goal.returns-clause-objects
returns-clause-objects c =
    let w = c.args.world.now in
    let e = expr_term c.args.over_all.now in
    IfOk-at_ok (λ a. reading_of a ≡ reading_at w (mentioned c.in_ok-names.names)) c.in_ok-expr.ensures.1 c.seen-objects.ensures
    ∙ ap (reading_at w) c.in_ok-names.ensures
    ∙ ap (λ (m : Mentioned). reading_at w (mentions m e)) c.new.ensures
