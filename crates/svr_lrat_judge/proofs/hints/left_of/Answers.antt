use Rattle.std.proofs.Common.{fold, ap, ◌∙◌}
use Rattle.std.proofs.lemmas.List.{take_all}
use Rattle.svr_lrat_judge.specs.declared.hints.Hinted.TheVariants as h
use Rattle.svr_lrat_judge.specs.Left.{left_step}
use Rattle.svr_lrat_judge.proofs.Lefts.{left_so_far}
use Rattle.svr_lrat_judge.proofs.hints.left_of.Goals as goal

pub returns : goal.returns
returns c =
    c.loop-lit.invariant ∙ ap (fold (left_step c.args.known.now) h.Shown) (take_all c.loop-lit.lit-index c.args.lits.now c.loop-lit-test.false)
    ∙ left_so_far c.args.known.now c.args.lits.now
