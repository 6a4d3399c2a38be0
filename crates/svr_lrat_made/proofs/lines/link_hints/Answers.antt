use Rattle.std.proofs.Common.{◌≡◌, ◌++◌, ◌∷◌, [], false, get_or, sym, ap, ◌∙◌}
use Rattle.std.proofs.lemmas.List.{map_more}
use Rattle.svr_chain.specs.declared.log.Link.{Link}
use Rattle.svr_lrat_made.specs.Made.{new_number, link_hint}
use Rattle.svr_lrat_made.proofs.lines.link_hints.Goals as goal

pub loop-link-preserved : goal.loop-link-preserved
loop-link-preserved c =
    let d : Link = record { pivot = record { var = 0; neg = false }; clause = 0 } in
    let e : c.push.new.self.items ≡ c.loop-link.hints.items ++ c.hint.result ∷ [] = c.in_ok-push.ensures.items in
    e
    ∙ ap (λ z. c.loop-link.hints.items ++ z ∷ []) c.hint.ensures
    ∙ ap (λ z. z ++ link_hint (new_number c.args.numbers.now.inputs c.args.numbers.now.ids.items) (get_or c.args.links.now c.loop-link.link-index d) ∷ []) c.loop-link.invariant
    ∙ sym (map_more (link_hint (new_number c.args.numbers.now.inputs c.args.numbers.now.ids.items)) c.args.links.now c.loop-link.link-index d c.loop-link-test.true)
