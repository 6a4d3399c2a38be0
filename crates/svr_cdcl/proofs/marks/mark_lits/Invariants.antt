use Rattle.std.proofs.Common.{◌≡◌, take}
use Rattle.svr_cdcl.specs.Marks.{AreFalse, Marks}
use Rattle.svr_cdcl.proofs.marks.mark_lits.Given as goal

abbrev pub invariant-loop-lit : goal.invariant-loop-lit
invariant-loop-lit l = record {
  vars : l.marks.vars ≡ l.fn.marks.vars;
  lits : AreFalse l.trail.entries l.marks.entries;
  marked : Marks l.fn.marks.entries l.marks.entries l.keep (take l.lit-index l.lits);
}
