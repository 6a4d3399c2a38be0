use Rattle.std.proofs.Common.{arith, ◌≡◌, ◌-◌, ◌+◌, ◌<◌, ◌||◌, ◌∙◌, ap, sym, Bool, List, [], length, drop, suc}
use denote.Param.Weighed.{at_most}
use Rattle.svr_typed.specs.declared.expr.TExpr.{size-TExpr}
use Rattle.svr_typed.specs.declared.expr.TRange.{TRange}
use Rattle.svr_typed.specs.ExprTerm.{expr_term, expr_terms, range_terms}
use Rattle.svr_eval.specs.Reading.{blank, reading_of}
use Rattle.svr_eval.specs.Value.{alone, sizes, fits_some, operand_of}
use Rattle.svr_eval.proofs.Bits.{factors}
use Rattle.svr_eval.proofs.Constant.{constant_alone}
use Rattle.svr_eval.proofs.Drops.{typed_at, reads_at, sizes_at, some_part}
use Rattle.svr_eval.proofs.Turns.{turned, ranges_typed, ranges_read}
use Rattle.svr_eval.proofs.expr.+value.Goals as goal

pub joined-value-whole-requires : goal.joined-value-whole-requires
joined-value-whole-requires t c =
    let some = some_part c.args.parts.now c.requires.some in
    let within : length c.args.parts.now - 1 < length c.args.parts.now = omega (arith, some) in
    let typed = typed_at (length c.args.parts.now - 1) c.args.parts.now c.index-parts-at.result c.requires.typed within in
    let reads = reads_at (reading_of c.args.a.now) (length c.args.env.now) (length c.args.parts.now - 1) c.args.parts.now c.index-parts-at.result c.requires.reads within in
    let small = at_most size-TExpr c.args.parts.now (length c.args.parts.now - 1) c.index-parts-at.result within in
    let smaller = rw (← c.index-parts-at.is) at small in
    (omega (arith, smaller), (rw (← c.index-parts-at.is) at typed, rw (← c.index-parts-at.is) at reads))

pub joined-value-requires : goal.joined-value-requires
joined-value-requires t c =
    let within : c.loop-at.at - 1 < length c.args.parts.now = omega (arith, c.loop-at.invariant.within) in
    let typed = typed_at (c.loop-at.at - 1) c.args.parts.now c.index-parts-at-in-loop-at.result c.requires.typed within in
    let reads = reads_at (reading_of c.args.a.now) (length c.args.env.now) (c.loop-at.at - 1) c.args.parts.now c.index-parts-at-in-loop-at.result c.requires.reads within in
    let small = at_most size-TExpr c.args.parts.now (c.loop-at.at - 1) c.index-parts-at-in-loop-at.result within in
    let smaller = rw (← c.index-parts-at-in-loop-at.is) at small in
    (omega (arith, smaller), (rw (← c.index-parts-at-in-loop-at.is) at typed, rw (← c.index-parts-at-in-loop-at.is) at reads))

pub joined-join-whole-requires : goal.joined-join-whole-requires
joined-join-whole-requires t c =
    let within : c.loop-at.at - 1 < length c.args.parts.now = omega (arith, c.loop-at.invariant.within) in
    let fit = sizes_at (c.loop-at.at - 1) c.args.parts.now c.index-parts-at-in-loop-at.result within in
    let fits = rw (← c.index-parts-at-in-loop-at.is) at fit in
    let next : suc (c.loop-at.at - 1) ≡ c.loop-at.at = omega (arith, c.loop-at-test.true) in
    let all = rw next at fits in
    omega (arith, all, c.value.ensures.width, c.loop-at.invariant.width, c.requires.high)

pub replicated-joined-requires : goal.replicated-joined-requires
replicated-joined-requires t c =
    let bounds = factors (alone blank [] (expr_term c.args.count.now)) (sizes (expr_terms c.args.parts.now)) c.args.width c.requires.size c.requires.low in
    (omega arith, (c.requires.typed, (c.requires.reads, (bounds.1, omega (arith, bounds.2, c.requires.high)))))

pub replicated-copied-requires-clause-some : goal.replicated-copied-requires-clause-some
replicated-copied-requires-clause-some t c =
    let bounds = factors (alone blank [] (expr_term c.args.count.now)) (sizes (expr_terms c.args.parts.now)) c.args.width c.requires.size c.requires.low in
    rw (c.value-count.ensures.value, c.value.ensures.value, constant_alone (reading_of c.args.a.now) c.args.env.now (expr_term c.args.count.now) c.requires.constant) bounds.0

pub replicated-copied-requires-clause-high : goal.replicated-copied-requires-clause-high
replicated-copied-requires-clause-high t c =
    rw (c.value-count.ensures.value, c.value.ensures.value, c.joined.ensures.width, constant_alone (reading_of c.args.a.now) c.args.env.now (expr_term c.args.count.now) c.requires.constant, c.requires.size) c.requires.high

pub replicated-returns-clause-width : goal.replicated-returns-clause-width
replicated-returns-clause-width t c =
    c.copied.ensures.width
    ∙ rw (c.value-count.ensures.value, c.value.ensures.value, c.joined.ensures.width, constant_alone (reading_of c.args.a.now) c.args.env.now (expr_term c.args.count.now) c.requires.constant) c.requires.size

pub fits_some-loop-range-preserved : goal.fits_some-loop-range-preserved
fits_some-loop-range-preserved t c =
    let a = reading_of c.args.a.now in
    let env = c.args.env.now in
    let set = c.args.set.now in
    let next = c.loop-range.range-index + 1 in
    let found = λ (rs : List TRange). fits_some a env (operand_of a env (expr_term c.args.left.now)) (range_terms rs) in
    record {
      typed = ranges_typed set next c.requires.set_typed;
      reads = ranges_read a (length env) set next c.requires.set_reads;
      same = turned found set c.loop-range.range-index c.range-item.result c.loop-range-test.true c.range-item.is
          (ap (λ (b : Bool). b || found (drop next set)) (sym c.fits.ensures ∙ c.if-fits.false)) c.loop-range.invariant.same;
    }
