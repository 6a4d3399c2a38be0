use Rattle.std.proofs.Common.{◌∙◌, ◌<◌, false, ◌&&◌, ◌||◌, get_or, length, take, ap, sym}
use Rattle.std.proofs.lemmas.List.Folds.{list_all_more}
use Rattle.svr_chain.specs.declared.clause.Lit.{Lit}
use Rattle.svr_chain.specs.Clauses.{same_lit}
use Rattle.svr_trail.specs.Trail.{is_false, value_in}
use Rattle.svr_cdcl.proofs.level.last_besides.Goals as goal

pub loop-lit-preserved : goal.loop-lit-preserved
loop-lit-preserved c = λ h o.
    let es = c.args.trail.now.entries in
    let p = c.args.pivot in
    let ls = c.args.lits.now in
    let i = c.loop-lit.lit-index in
    let d : Lit = record { var = 0; neg = false } in
    let r : i < length ls = c.loop-lit-test.true in
    list_all_more (λ x. same_lit x p || is_false (value_in (take h es) x)) ls i d r
    ∙ (ap (λ z. z && (same_lit (get_or ls i d) p || is_false (value_in (take h es) (get_or ls i d)))) (c.loop-lit.invariant h o) ∙ sym (c.later-last.ensures h o))
