use Rattle.std.proofs.Common.{◌≡◌, OnOk, map, sym, subst}
use Rattle.svr_typed.specs.ExprTerm.{expr_term}
use Rattle.svr_eval.specs.Reading.{reading_of}
use Rattle.svr_frame.specs.declared.slot.Slot.{Slot}
use Rattle.svr_values.specs.Needed.{needed_of}
use Rattle.svr_settled.specs.Steps.{step}
use Rattle.svr_settled.proofs.slots.settle_slot.Goals as goal

pub returns-in-Scalar-clause-reads : goal.returns-in-Scalar-clause-reads
returns-in-Scalar-clause-reads c =
    subst (λ (s : Slot). OnOk c.try_number.result (reading_of c.try_number.new.a ≡ step (needed_of (map expr_term c.args.items.now) c.args.needed.now) (reading_of c.args.wanted.now) (reading_of c.args.a.now) s)) (sym c.in-Scalar.is) c.try_number.ensures.reads

pub returns-in-Element-clause-reads : goal.returns-in-Element-clause-reads
returns-in-Element-clause-reads c =
    subst (λ (s : Slot). OnOk c.try_number-in-Element.result (reading_of c.try_number-in-Element.new.a ≡ step (needed_of (map expr_term c.args.items.now) c.args.needed.now) (reading_of c.args.wanted.now) (reading_of c.args.a.now) s)) (sym c.in-Element.is) c.try_number-in-Element.ensures.reads
