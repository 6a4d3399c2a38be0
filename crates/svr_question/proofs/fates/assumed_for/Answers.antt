use Rattle.std.proofs.Common.{[], ◌∷◌, ap, ◌∙◌, List}
use Rattle.std.specs.Rc.{rc_slice_items}
use Rattle.svr_chain.specs.declared.clause.Lit.{Lit}
use Rattle.svr_question.proofs.Counted.{assumed_first}
use Rattle.svr_question.proofs.fates.assumed_for.Goals as goal

pub returns : goal.returns
returns c =
    c.in_ok-assume.ensures
    ∙ assumed_first (rc_slice_items c.args.common.base.now) c.args.soft.now c.args.kept.now c.args.rank c.count_above-above.result (rc_slice_items c.args.common.literals.now) _ c.requires.literals c.count_above-above.ensures
    (c.in_ok-own.ensures.items ∙ ap (λ (l : Lit). l ∷ []) c.lit_of.ensures)
