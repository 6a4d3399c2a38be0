use Rattle.std.proofs.Common.{◌≡◌, take}
use Rattle.std.specs.List.{concat}
use Rattle.svr_status.specs.Lines.{seen}
use Rattle.svr_status.proofs.line.join.Given as goal

abbrev pub invariant-loop-part : goal.invariant-loop-part
invariant-loop-part l = l.text.items ≡ concat (seen (take l.part-index l.parts))
