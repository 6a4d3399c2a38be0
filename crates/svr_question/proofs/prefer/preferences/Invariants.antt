use Rattle.std.proofs.Common.{◌≡◌, length}
use Rattle.svr_question.proofs.prefer.preferences.Given as goal

abbrev pub invariant-loop-slot : goal.invariant-loop-slot
invariant-loop-slot l = length l.prefer.items ≡ length l.initial.prefer.items
