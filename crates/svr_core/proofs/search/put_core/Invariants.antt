use Rattle.std.proofs.Common.{◌≡◌, ◌++◌, drop}
use Rattle.svr_core.specs.Groups.{lits_at}
use Rattle.svr_core.specs.Cores.{places_of}
use Rattle.svr_core.proofs.search.put_core.Given as goal

abbrev pub invariant-loop-needed : goal.invariant-loop-needed
invariant-loop-needed l = l.lits.items ++ lits_at l.groups (places_of (drop l.needed-index l.core)) ≡ l.initial.lits.items ++ lits_at l.groups (places_of l.core)
