use Rattle.std.proofs.Common.{◌≡◌, Some, drop}
use Rattle.svr_cdcl.specs.Marks.{are_marked}
use Rattle.svr_cdcl.proofs.minimize.are_lits_marked.Given as goal

abbrev pub invariant-loop-lit : goal.invariant-loop-lit
invariant-loop-lit l = are_marked l.marks.entries (Some l.keep) (drop l.lit-index l.lits) ≡ are_marked l.marks.entries (Some l.keep) l.lits
