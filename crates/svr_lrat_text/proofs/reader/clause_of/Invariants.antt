use Rattle.std.proofs.Common.{◌≡◌, map, take}
use Rattle.svr_lrat_text.specs.File.{lit_number}
use Rattle.svr_lrat_text.proofs.reader.clause_of.Given as goal

abbrev pub invariant-loop-number : goal.invariant-loop-number
invariant-loop-number l = map lit_number l.lits.items ≡ take l.number-index l.numbers
