use Rattle.std.proofs.Common.{◌≡◌, true, map, take}
use Rattle.svr_chain.specs.Clauses.{is_within}
use Rattle.svr_watch.specs.Codes.{lit_of}
use Rattle.svr_watch.proofs.find.are_codes_within.Given as goal

abbrev pub invariant-loop-code : goal.invariant-loop-code
invariant-loop-code l = is_within (take l.code-index (map lit_of l.codes)) l.lits ≡ true
