use Rattle.std.proofs.Common.{◌≡◌, Some, true, map, take}
use Rattle.svr_watch.specs.Codes.{lit_of}
use Rattle.svr_cdcl.specs.Marks.{are_marked}
use Rattle.svr_cdcl.proofs.minimize.are_codes_marked.Given as goal

abbrev pub invariant-loop-code : goal.invariant-loop-code
invariant-loop-code l = are_marked l.marks.entries (Some l.keep) (take l.code-index (map lit_of l.codes)) ≡ true
