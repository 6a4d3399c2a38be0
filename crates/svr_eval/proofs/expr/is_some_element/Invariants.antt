use Rattle.std.proofs.Common.{◌≡◌, ◌==◌, false}
use Rattle.svr_num.specs.Num.{extend_of}
use Rattle.svr_eval.specs.Reading.{reading_of}
use Rattle.svr_eval.specs.Value.{any_below}
use Rattle.svr_eval.proofs.expr.is_some_element.Given as goal

abbrev pub invariant-loop-i : goal.invariant-loop-i
invariant-loop-i l = any_below l.i (λ i. l.x.value == extend_of l.signed l.x.width l.width ((reading_of l.a).element l.prop i)) ≡ false
