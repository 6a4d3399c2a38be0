use Rattle.std.proofs.Common.{◌≡◌, drop}
use Rattle.std.specs.List.{list_any}
use Rattle.svr_expand.specs.Targeted.{removes_one}
use Rattle.svr_expand.proofs.targets.Targets.removes.Given as goal

abbrev pub invariant-loop-mention : goal.invariant-loop-mention
invariant-loop-mention l = list_any (removes_one l.self) (drop l.mention-index l.mentions) ≡ list_any (removes_one l.self) l.mentions
