use Rattle.std.proofs.Common.{◌≡◌, drop}
use Rattle.svr_elab_part.specs.Elab.{last_name}
use Rattle.svr_elab_item.proofs.solve.last_name.Given as goal

abbrev pub invariant-loop-name : goal.invariant-loop-name
invariant-loop-name l = last_name l.last (drop l.name-index l.names) ≡ last_name l.fn.at l.names
