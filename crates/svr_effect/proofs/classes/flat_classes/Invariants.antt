use Rattle.std.proofs.Common.{◌≡◌, map}
use Rattle.std.specs.List.{range_with_len}
use Rattle.svr_typed.specs.ClassTerm.{flat_term, class_terms}
use Rattle.svr_effect.specs.Inherited.{wanted_class}
use Rattle.svr_effect.proofs.classes.flat_classes.Given as goal

abbrev pub invariant-loop-class : goal.invariant-loop-class
invariant-loop-class l = map flat_term l.flats ≡ map (wanted_class l.wanted (class_terms l.design.classes)) (range_with_len 0 l.class)
