use Rattle.std.proofs.Common.{◌≡◌, ◌<◌, ◌≤◌, ◌*◌, ◌^◌, arith}
use Rattle.std.proofs.lemmas.Bool.{true≢false}
use Rattle.svr_design.proofs.examples.wrong_types_are_not_lawful.Goals as goal

pub returns : goal.returns
returns c = record {
  write = λ l. true≢false l.enums.0.differ.0;
  initial = λ l. let h : 16 < 2 ^ 4 = l.classes.0.props.0.first in omega arith;
  cycle = λ l. let h : 9 ≤ 8 = l.classes.0.props.1.0.cycle.1 in omega arith;
  inner = λ l. let h : l.classes.1.0.props.0.inner.1.rows * 3 ≡ 4 = l.classes.1.0.props.0.inner.1.product in omega arith;
}
