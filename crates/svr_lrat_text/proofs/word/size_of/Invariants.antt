use Rattle.std.proofs.Common.{◌≡◌, min, take}
use Rattle.svr_lrat_text.specs.declared.limits.TheConstants.{MOST_SIZE}
use Rattle.svr_lrat_text.specs.Words.{value_of}
use Rattle.svr_lrat_text.proofs.word.size_of.Given as goal

abbrev pub invariant-loop-byte : goal.invariant-loop-byte
invariant-loop-byte l = l.size ≡ min (value_of (take l.byte-index l.digits)) MOST_SIZE
