use Rattle.std.proofs.Common.{◌≡◌, length}
use Rattle.svr_randomize.proofs.Rows.{AreSameBelow}
use Rattle.svr_randomize.proofs.read.fixed_rows.Given as goal

abbrev pub invariant-loop-prop : goal.invariant-loop-prop
invariant-loop-prop l = (length l.fixed ≡ l.prop) × AreSameBelow l.random l.rows l.prop l.fixed
