use Rattle.std.proofs.Common.{◌≡◌, map, take}
use Rattle.svr_cdcl.specs.Marks.{AreFalse, Marks}
use Rattle.svr_watch.specs.Codes.{lit_of}
use Rattle.svr_cdcl.proofs.marks.mark_codes.Given as goal

abbrev pub invariant-loop-code : goal.invariant-loop-code
invariant-loop-code l = record {
  vars : l.marks.vars ≡ l.fn.marks.vars;
  lits : AreFalse l.trail.entries l.marks.entries;
  marked : Marks l.fn.marks.entries l.marks.entries l.keep (take l.code-index (map lit_of l.codes));
}
