use Rattle.std.proofs.Common.{◌≡◌, sym, ap, ◌∙◌}
use Rattle.svr_query.proofs.Models.{model-given, model-not}
use Rattle.svr_query.proofs.solver.Solver.ask.Goals as goal

pub returns-then-is_model-clause-answer : goal.returns-then-is_model-clause-answer
returns-then-is_model-clause-answer c =
    let e : c.as_slice.result.now ≡ c.args.self.now.clauses = c.as_slice.ensures.value ∙ ap (λ z. z.clauses) c.self.view_is in
    model-given c.args.self.now.clauses c.as_slice.result.now c.args.assume.now c.args.prefer.now e c.args.self.now.vars c.in_ok-values.values.items
    c.in_ok-values.ensures.items c.requires.prefer (sym c.is_model.ensures ∙ c.if-is_model.true)

pub returns-clause-preferred : goal.returns-clause-preferred
returns-clause-preferred c = λ m.
    let e : c.as_slice.result.now ≡ c.args.self.now.clauses = c.as_slice.ensures.value ∙ ap (λ z. z.clauses) c.self.view_is in
    absurd (model-not c.args.self.now.clauses c.as_slice.result.now c.args.assume.now c.args.prefer.now e m (sym c.is_model.ensures ∙ c.if-is_model.false))
