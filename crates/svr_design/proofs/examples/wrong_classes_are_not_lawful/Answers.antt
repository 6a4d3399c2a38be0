use Rattle.std.proofs.Common.{◌<◌, arith}
use Rattle.std.proofs.lemmas.Bool.{true≢false}
use Rattle.svr_flat.specs.Flat.{flat_class_of}
use Rattle.svr_design.proofs.examples.wrong_classes_are_not_lawful.Goals as goal

pub returns : goal.returns
unfolding flat_class_of
returns c = record {
  base = λ l. let h : 1 < 0 = l.classes.0.base in omega arith;
  name = λ l. true≢false l.classes.1.0.differ.0;
  listed = λ l. true≢false l.classes.1.0.can.1.1.1.1.0;
}
