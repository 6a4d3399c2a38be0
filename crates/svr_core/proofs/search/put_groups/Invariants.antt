use Rattle.std.proofs.Common.{◌≡◌, ◌++◌, drop}
use Rattle.svr_core.specs.Groups.{lits_of}
use Rattle.svr_core.proofs.search.put_groups.Given as goal

abbrev pub invariant-loop-group : goal.invariant-loop-group
invariant-loop-group l = l.lits.items ++ lits_of (drop l.group-index l.groups) ≡ l.initial.lits.items ++ lits_of l.groups
