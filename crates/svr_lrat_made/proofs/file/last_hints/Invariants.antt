use Rattle.std.proofs.Common.{◌≡◌, map, take}
use Rattle.svr_lrat_made.specs.Made.{denying_hint}
use Rattle.svr_lrat_made.proofs.file.last_hints.Given as goal

abbrev pub invariant-loop-lit : goal.invariant-loop-lit
invariant-loop-lit l = l.hints.items ≡ map (denying_hint l.inputs l.assume) (take l.lit-index l.lits)
