use Rattle.std.proofs.Common.{◌≡◌, ◌<◌, ◌≤◌, arith}
use Rattle.std.proofs.lemmas.Bool.{true≢false}
use Rattle.svr_flat.specs.Flat.{flat_class_of}
use Rattle.svr_design.proofs.forms.wrong_places_are_not_lawful.Goals as goal

pub returns : goal.returns
unfolding flat_class_of
returns c = record {
  elements = λ l. let h : 2049 ≤ 2048 = l.stmts.1.0.2 in omega arith;
  pattern = λ l. let h : 2 ≡ 3 = l.stmts.1.1.0.1.0 in omega arith;
  place = λ l. true≢false l.stmts.1.1.1.0.1;
  mode = λ l. let h : 5 < 5 = l.stmts.1.1.1.1.1.1.0.1 in omega arith;
  block = λ l. let h : 1 < 1 = l.stmts.1.1.1.1.1.1.1.0.1 in omega arith;
}
