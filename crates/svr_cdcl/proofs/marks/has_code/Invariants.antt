use Rattle.std.proofs.Common.{◌≡◌, false, map, take}
use Rattle.svr_chain.specs.Clauses.{has}
use Rattle.svr_watch.specs.Codes.{lit_of}
use Rattle.svr_cdcl.proofs.marks.has_code.Given as goal

abbrev pub invariant-loop-code : goal.invariant-loop-code
invariant-loop-code l = has (take l.code-index (map lit_of l.codes)) l.lit ≡ false
