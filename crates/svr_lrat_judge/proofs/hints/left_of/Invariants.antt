use Rattle.std.proofs.Common.{◌≡◌, fold, take}
use Rattle.svr_lrat_judge.specs.declared.hints.Hinted.TheVariants as h
use Rattle.svr_lrat_judge.specs.Left.{left_step}
use Rattle.svr_lrat_judge.proofs.hints.left_of.Given as goal

abbrev pub invariant-loop-lit : goal.invariant-loop-lit
invariant-loop-lit l = l.left ≡ fold (left_step l.known) h.Shown (take l.lit-index l.lits)
