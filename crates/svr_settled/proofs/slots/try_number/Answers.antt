use Rattle.std.proofs.Common.{◌∙◌, sym, ap, subst, map, arith}
use Rattle.std.specs.List.{All}
use Rattle.svr_typed.specs.ExprTerm.{expr_term}
use Rattle.svr_eval.specs.Reading.{Reading, reading_of}
use Rattle.svr_eval.specs.Typed.{CanRead}
use Rattle.svr_values.specs.Needed.{needed_of}
use Rattle.svr_settled.specs.Steps.{with_number}
use Rattle.svr_settled.proofs.Stepped.{taken, left, unchanged}
use Rattle.svr_settled.proofs.slots.try_number.Goals as goal

pub returns-then-before-number-clause-reads : goal.returns-then-before-number-clause-reads
returns-then-before-number-clause-reads c =
    unchanged (needed_of (map expr_term c.args.items.now) c.args.needed.now) (reading_of c.args.wanted.now) (reading_of c.args.a.now) c.args.at.0 c.args.at.1 c.element-number.result c.element-before.result
    c.if-before-number.true
    (c.element-number.ensures ∙ ap ((reading_of c.args.wanted.now).element c.args.at.0) c.from-place.ensures)
    (c.element-before.ensures ∙ ap ((reading_of c.args.a.now).element c.args.at.0) c.from-place.ensures)

pub hold_now-requires-clause-readable : goal.hold_now-requires-clause-readable
hold_now-requires-clause-readable c =
    let same = c.element-number.ensures ∙ ap ((reading_of c.args.wanted.now).element c.args.at.0) c.from-place.ensures in
    subst (λ (r : Reading). All (λ e. CanRead r 0 (expr_term e)) c.args.items.now) (sym (c.in_ok-put.ensures.reads ∙ ap (with_number (reading_of c.args.a.now) c.args.at.0 c.args.at.1) same)) c.requires.readable

pub returns-then-hold_now-clause-reads : goal.returns-then-hold_now-clause-reads
returns-then-hold_now-clause-reads c =
    taken (needed_of (map expr_term c.args.items.now) c.args.needed.now) (reading_of c.args.wanted.now) (reading_of c.args.a.now) (reading_of c.put.new.a) c.args.at.0 c.args.at.1 c.element-number.result
    c.in_ok-put.ensures.reads
    (c.element-number.ensures ∙ ap ((reading_of c.args.wanted.now).element c.args.at.0) c.from-place.ensures)
    (sym c.hold_now.ensures ∙ c.if-hold_now.true)

pub put-requires-2 : goal.put-requires-2
put-requires-2 c = let same = c.in_ok-put.ensures.long c.args.at.0 in omega (arith, same, c.requires.within)

pub returns-clause-reads : goal.returns-clause-reads
returns-clause-reads c =
    left (needed_of (map expr_term c.args.items.now) c.args.needed.now) (reading_of c.args.wanted.now) (reading_of c.args.a.now) (reading_of c.put.new.a) (reading_of c.put-2.new.a) c.args.at.0 c.args.at.1 c.element-number.result c.element-before.result
    c.in_ok-put.ensures.reads
    (c.element-number.ensures ∙ ap ((reading_of c.args.wanted.now).element c.args.at.0) c.from-place.ensures)
    (sym c.hold_now.ensures ∙ c.if-hold_now.false)
    c.in_ok-put-2.ensures.reads
    (c.element-before.ensures ∙ ap ((reading_of c.args.a.now).element c.args.at.0) c.from-place.ensures)

pub returns-clause-long : goal.returns-clause-long
returns-clause-long c = λ p. c.in_ok-put-2.ensures.long p ∙ c.in_ok-put.ensures.long p
