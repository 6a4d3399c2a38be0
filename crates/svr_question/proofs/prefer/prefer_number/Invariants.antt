use Rattle.std.proofs.Common.{◌≡◌, length}
use Rattle.svr_question.proofs.prefer.prefer_number.Given as goal

abbrev pub invariant-loop-bit : goal.invariant-loop-bit
invariant-loop-bit l = length l.prefer.items ≡ length l.initial.prefer.items
