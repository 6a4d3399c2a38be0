use Rattle.std.proofs.Common.{◌≡◌, ℕ, ◌≤◌, length, take}
use Rattle.svr_trail.specs.Trail.{is_false_but}
use Rattle.svr_cdcl.specs.Marks.{is_before}
use Rattle.svr_cdcl.proofs.level.last_besides.Given as goal

abbrev pub invariant-loop-lit : goal.invariant-loop-lit
invariant-loop-lit l = (h : ℕ) → h ≤ length l.trail.entries → is_false_but (take h l.trail.entries) l.pivot (take l.lit-index l.lits) ≡ is_before l.last h
