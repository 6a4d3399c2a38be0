use Rattle.std.proofs.Common.{◌≤◌, sym, arith}
use Rattle.std.proofs.lemmas.Bool.{true≢false}
use Rattle.svr_flat.specs.Flat.{flat_class_of}
use Rattle.svr_design.proofs.examples.wrong_statements_are_not_lawful.Goals as goal

pub returns : goal.returns
unfolding flat_class_of
returns c = record {
  start = λ l. true≢false (sym l.made.1.0.0);
  value = λ l. l.stmts.1.0.2.1;
  times = λ l. let h : 100001 ≤ 100000 = l.few_stmts in omega arith;
  answer = λ l. l.stmts.1.1.0.1.answer;
}
