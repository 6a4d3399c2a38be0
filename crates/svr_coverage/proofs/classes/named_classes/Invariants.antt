use Rattle.std.proofs.Common.{◌≡◌, map, length}
use Rattle.svr_token.specs.Names.{names_of}
use Rattle.svr_typed.specs.ClassTerm.{flat_term}
use Rattle.svr_coverage.specs.Classes.{with_classes, named_classes}
use Rattle.svr_coverage.proofs.classes.named_classes.Given as goal

abbrev pub invariant-groups : goal.invariant-groups
invariant-groups l = with_classes (names_of l.names) l.classes (map flat_term l.flats) l.left ≡ named_classes (names_of l.names) l.classes l.groups

abbrev pub decreases-groups : goal.decreases-groups
decreases-groups l = length l.left
