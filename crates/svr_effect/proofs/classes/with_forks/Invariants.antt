use Rattle.std.proofs.Common.{◌≡◌, length}
use Rattle.svr_effect.specs.Inherited.{KeepsWanted}
use Rattle.svr_effect.proofs.classes.with_forks.Given as goal

abbrev pub invariant-classes : goal.invariant-classes
invariant-classes l = record {
  place : l.at ≡ length l.left;
  kept : KeepsWanted l.fn.wanted.items l.marks.items;
}

abbrev pub decreases-classes : goal.decreases-classes
decreases-classes l = length l.left
