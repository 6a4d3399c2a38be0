use Rattle.std.proofs.Common.{◌≡◌, ◌++◌, drop}
use Rattle.svr_expand.specs.Cut.{cut_from}
use Rattle.svr_expand.proofs.state.cut_numbers.Given as goal

abbrev pub invariant-loop-prop : goal.invariant-loop-prop
invariant-loop-prop l = l.kept ++ cut_from l.prop (drop l.prop l.values) l.sizes ≡ cut_from 0 l.values l.sizes
