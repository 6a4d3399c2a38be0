use Rattle.std.proofs.Common.{◌≡◌, ◌++◌, drop}
use Rattle.svr_lrat_made.specs.Made.{numbered}
use Rattle.svr_lrat_made.proofs.numbers.numbered.Given as goal

abbrev pub invariant-loop-mark : goal.invariant-loop-mark
invariant-loop-mark l = l.ids.items ++ numbered l.so_far (drop l.mark-index l.marks) ≡ numbered l.fn.last l.marks
