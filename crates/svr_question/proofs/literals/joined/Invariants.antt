use Rattle.std.proofs.Common.{◌≡◌, take}
use Rattle.std.specs.List.{flat_map}
use Rattle.svr_vector.specs.Places.{rows}
use Rattle.svr_question.proofs.literals.joined.Given as goal

abbrev pub invariant-loop-row : goal.invariant-loop-row
invariant-loop-row l = l.all.items ≡ flat_map (λ row. row) (rows (take l.row-index l.bits))
