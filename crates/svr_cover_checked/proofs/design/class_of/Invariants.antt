use Rattle.std.proofs.Common.{◌≡◌, ◌+◌, length}
use Rattle.svr_cover_checked.specs.Design.{class_from}
use Rattle.svr_cover_checked.proofs.design.class_of.Given as goal

abbrev pub invariant-classes : goal.invariant-classes
invariant-classes l = record {
  place : l.at + length l.left ≡ length l.classes;
  found : class_from 0 l.classes l.name ≡ class_from l.at l.left l.name;
}

abbrev pub decreases-classes : goal.decreases-classes
decreases-classes l = length l.left
