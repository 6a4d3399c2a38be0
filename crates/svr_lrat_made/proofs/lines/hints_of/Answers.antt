use Rattle.std.proofs.Common.{◌≡◌, ◌++◌, ◌∷◌, [], map, reverse, ap, ◌∙◌, subst}
use Rattle.svr_chain.specs.Views.{StepView}
use Rattle.svr_lrat_made.specs.Made.{new_number, link_hint, hints_of}
use Rattle.svr_lrat_made.proofs.lines.hints_of.Goals as goal

pub returns : goal.returns
returns c =
    subst (λ (z : StepView). c.push.new.self.items ≡ hints_of (new_number c.args.numbers.now.inputs c.args.numbers.now.ids.items) z) c.step.view_is
    (c.in_ok-push.ensures.items
    ∙ ap (λ z. z ++ c.hint.result ∷ [])
    (c.in_ok-hints.ensures
    ∙ ap (map (link_hint (new_number c.args.numbers.now.inputs c.args.numbers.now.ids.items))) (c.as_slice-back.ensures.value ∙ c.in_ok-reversed.ensures ∙ ap reverse c.as_slice-links.ensures.value))
    ∙ ap (λ z. map (link_hint (new_number c.args.numbers.now.inputs c.args.numbers.now.ids.items)) (reverse c.step.inside.links.items) ++ z ∷ []) c.hint.ensures)
