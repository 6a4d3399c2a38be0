use Rattle.std.proofs.Common.{◌≡◌, take}
use Rattle.svr_watch.specs.Store.{AreCodes}
use Rattle.svr_watch.proofs.Marked.{AreMarked}
use Rattle.svr_watch.proofs.codes.marked_codes.Given as goal

abbrev pub invariant-loop-lit : goal.invariant-loop-lit
invariant-loop-lit l = record {
  vars : l.marks.vars ≡ l.fn.marks.vars;
  codes : AreCodes l.codes.items (take l.lit-index l.lits);
  marked : AreMarked l.marks.entries (take l.lit-index l.lits);
}
