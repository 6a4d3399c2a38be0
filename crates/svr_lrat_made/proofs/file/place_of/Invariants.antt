use Rattle.std.proofs.Common.{◌≡◌, ◌+◌, drop}
use Rattle.svr_lrat_made.specs.Made.{place_of}
use Rattle.svr_lrat_made.proofs.file.place_of.Given as goal

abbrev pub invariant-loop-place : goal.invariant-loop-place
invariant-loop-place l = l.place + place_of (drop l.place l.assume) l.lit ≡ place_of l.assume l.lit
