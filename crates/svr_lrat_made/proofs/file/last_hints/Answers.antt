use Rattle.std.proofs.Common.{◌≡◌, ◌++◌, ◌∷◌, [], false, get_or, sym, ap, ◌∙◌}
use Rattle.std.proofs.lemmas.List.{map_more}
use Rattle.svr_chain.specs.declared.clause.Lit.{Lit}
use Rattle.svr_lrat_made.specs.Made.{denying_hint}
use Rattle.svr_lrat_made.proofs.file.last_hints.Goals as goal

pub loop-lit-preserved : goal.loop-lit-preserved
loop-lit-preserved c =
    let d : Lit = record { var = 0; neg = false } in
    let e : c.push.new.self.items ≡ c.loop-lit.hints.items ++ c.in_ok-denying_hint.field-0 ∷ [] = c.in_ok-push.ensures.items in
    e
    ∙ ap (λ z. c.loop-lit.hints.items ++ z ∷ []) c.in_ok-denying_hint.ensures
    ∙ ap (λ z. z ++ denying_hint c.args.inputs c.args.assume.now (get_or c.args.lits.now c.loop-lit.lit-index d) ∷ []) c.loop-lit.invariant
    ∙ sym (map_more (denying_hint c.args.inputs c.args.assume.now) c.args.lits.now c.loop-lit.lit-index d c.loop-lit-test.true)
