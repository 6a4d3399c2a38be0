use Rattle.std.proofs.Common.{◌≡◌, ◌++◌, length, flat_map}
use Rattle.svr_lrat_printed.specs.Text.{line_text}
use Rattle.svr_lrat_printed.proofs.text.put_lines.Given as goal

abbrev pub invariant-loop-left : goal.invariant-loop-left
invariant-loop-left l = l.text.items ++ flat_map line_text l.left ≡ l.fn.text.items ++ flat_map line_text l.fn.lines

abbrev pub decreases-loop-left : goal.decreases-loop-left
decreases-loop-left l = length l.left
