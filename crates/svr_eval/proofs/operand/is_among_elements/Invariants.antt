use Rattle.std.proofs.Common.{◌≡◌, ◌-◌, ℕ}
use Rattle.std.specs.List.{list_any}
use Rattle.svr_eval.specs.Reading.{reading_of}
use Rattle.svr_eval.specs.Value.{are_equal}
use Rattle.svr_eval.specs.Holds.{elements_from}
use Rattle.svr_eval.specs.Operands.{seen}
use Rattle.svr_eval.proofs.operand.is_among_elements.Given as goal

abbrev pub invariant-loop-at : goal.invariant-loop-at
invariant-loop-at l =
    let told = λ (i : ℕ). list_any (are_equal (seen (reading_of l.a) l.env l.x)) (elements_from (reading_of l.a) l.prop l.width l.signed i ((reading_of l.a).size l.prop - i)) in
    told l.at ≡ told l.from
