use Rattle.std.proofs.Common.{[], map, sym, ap, ◌∙◌, arith}
use Rattle.std.specs.List.{list_all}
use Rattle.std.proofs.lemmas.List.{take_all}
use Rattle.svr_typed.specs.ExprTerm.{expr_term}
use Rattle.svr_eval.specs.Reading.{reading_of}
use Rattle.svr_eval.specs.Value.{alone, is_set}
use Rattle.svr_values.proofs.Holding.{all_more, all_fails}
use Rattle.svr_values.proofs.hold.all_hold.Goals as goal

pub returns-then-not-holds : goal.returns-then-not-holds
returns-then-not-holds c =
    sym (all_fails (λ e. is_set (alone (reading_of c.args.a.now) [] e)) c.args.items.now c.loop-item.item-index c.item-item.result (omega arith) c.item-item.is (sym c.holds.ensures ∙ c.if-not-holds.true))

pub loop-item-preserved : goal.loop-item-preserved
loop-item-preserved c =
    all_more (λ e. is_set (alone (reading_of c.args.a.now) [] e)) c.args.items.now c.loop-item.item-index c.item-item.result (omega arith) c.item-item.is (sym c.holds.ensures ∙ c.if-not-holds.false) c.loop-item.invariant

pub returns : goal.returns
returns c =
    sym c.loop-item.invariant ∙ ap (λ xs. list_all (λ e. is_set (alone (reading_of c.args.a.now) [] e)) (map expr_term xs)) (take_all c.loop-item.item-index c.args.items.now (omega arith))
