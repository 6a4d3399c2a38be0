use Rattle.std.proofs.Common.{◌≡◌, drop}
use Rattle.svr_lrat_text.specs.Words.{tokens_in, tokens_of}
use Rattle.svr_lrat_text.proofs.header.header_start.Given as goal

abbrev pub invariant-loop-i : goal.invariant-loop-i
invariant-loop-i l = tokens_of l.text ≡ tokens_in l.part l.i (drop l.i l.text)
