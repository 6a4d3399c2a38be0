use Rattle.std.proofs.Common.{◌+◌, drop, subst, false}
use Rattle.std.proofs.lemmas.List.{drop_more, drop_all}
use Rattle.svr_lrat_judge.specs.Marks.{MarkedAmong}
use Rattle.svr_lrat_judge.proofs.MarkLemmas.{unmarked-all}
use Rattle.svr_lrat_judge.proofs.known.unmark.Goals as goal

pub loop-lit-preserved : goal.loop-lit-preserved
loop-lit-preserved c =
    c.unmark_one.ensures (drop (c.loop-lit.lit-index + 1) c.args.lits.now)
    (subst (MarkedAmong c.loop-lit.marks.items) (drop_more c.args.lits.now c.loop-lit.lit-index (record { var = 0; neg = false }) c.loop-lit-test.true) c.loop-lit.invariant)

pub returns : goal.returns
returns c =
    unmarked-all c.loop-lit.marks.items
    (subst (MarkedAmong c.loop-lit.marks.items) (drop_all c.loop-lit.lit-index c.args.lits.now c.loop-lit-test.false) c.loop-lit.invariant)
