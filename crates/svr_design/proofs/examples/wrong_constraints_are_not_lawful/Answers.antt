use Rattle.std.proofs.Common.{◌≡◌, ◌<◌, sym, arith}
use Rattle.std.proofs.lemmas.Bool.{true≢false}
use Rattle.svr_flat.specs.Flat.{flat_class_of}
use Rattle.svr_design.proofs.examples.wrong_constraints_are_not_lawful.Goals as goal

pub returns : goal.returns
unfolding flat_class_of
returns c = record {
  width = λ l. let h : 4 ≡ 5 = l.classes.0.blocks.0.1.0.0.0.1.0 in omega arith;
  soft = λ l. true≢false l.classes.0.blocks.0.1.1.0.2;
  outer = λ l. let h : 2 < 2 = l.classes.1.0.blocks.0.1.0.3.0.0.0.1 in omega arith;
  last = λ l. true≢false (sym l.classes.1.0.blocks.0.1.1.0.0.0.4.2);
  bit = λ l. true≢false l.classes.1.0.blocks.0.1.1.1.0.0.3;
}
