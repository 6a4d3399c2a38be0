use Rattle.svr_randomize.proofs.Rows.{AreSameBelow}
use Rattle.svr_randomize.proofs.read.are_same_rows.Given as goal

abbrev pub invariant-loop-prop : goal.invariant-loop-prop
invariant-loop-prop l = AreSameBelow l.random l.rows l.prop l.others
