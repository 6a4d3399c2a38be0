use Rattle.std.proofs.Common.{◌≡◌, rules, suc, arith, to_z, of_z, w64}
use Rattle.svr_typed.specs.ExprTerm.{expr_term, expr_terms, range_terms}
use Rattle.svr_frame.specs.Closed as spec
use Rattle.svr_closed.proofs.Copies.{exprs_done, ranges_done}
use Rattle.svr_closed.proofs.Forms.{element_made, cell_made, of_made, bit_made, bits_made, unary_made, binary_made, choice_made, sign_made, reduce_made, inside_made, copies_made}
use Rattle.svr_closed.proofs.close.Loops.+closed.Goals as goal

pub expr-returns-in-Element : goal.expr-returns-in-Element
expr-returns-in-Element t c =
    let env = c.args.self.now.env.now in
    let own = c.args.self.now.own in
    element_made env own c.args.e.now c.element.result c.in-Element.prop c.in-Element.index c.get.result.now c.in-Element.is c.get.ensures (c.element.ensures (spec.closed_within env own (expr_term c.get.result.now)) c.expr.ensures)

pub expr-returns-in-Cell : goal.expr-returns-in-Cell
expr-returns-in-Cell t c =
    let env = c.args.self.now.env.now in
    let own = c.args.self.now.own in
    cell_made env own c.args.e.now c.cell.result c.in-Cell.prop c.in-Cell.inner c.in-Cell.first c.in-Cell.second c.get-in-Cell.result.now c.get-in-Cell-2.result.now c.in-Cell.is c.get-in-Cell.ensures c.get-in-Cell-2.ensures (c.cell.ensures (spec.closed_within env own (expr_term c.get-in-Cell.result.now)) (spec.closed_within env own (expr_term c.get-in-Cell-2.result.now)) c.expr-in-Cell.ensures c.expr-in-Cell-2.ensures)

pub expr-returns-in-Of : goal.expr-returns-in-Of
expr-returns-in-Of t c =
    let env = c.args.self.now.env.now in
    let own = c.args.self.now.own in
    of_made env own c.args.e.now c.of_object.result c.in-Of.object c.in-Of.part c.get-in-Of.result.now c.in-Of.is c.get-in-Of.ensures (c.of_object.ensures (spec.closed_within env own (expr_term c.get-in-Of.result.now)) c.expr-in-Of.ensures)

pub expr-returns-in-Unary : goal.expr-returns-in-Unary
expr-returns-in-Unary t c =
    let env = c.args.self.now.env.now in
    let own = c.args.self.now.own in
    unary_made env own c.args.e.now c.unary.result c.in-Unary.op c.in-Unary.arg c.get-in-Unary.result.now c.in-Unary.is c.get-in-Unary.ensures (c.unary.ensures (spec.closed_within env own (expr_term c.get-in-Unary.result.now)) c.expr-in-Unary.ensures)

pub expr-returns-in-Binary : goal.expr-returns-in-Binary
expr-returns-in-Binary t c =
    let env = c.args.self.now.env.now in
    let own = c.args.self.now.own in
    binary_made env own c.args.e.now c.binary.result c.in-Binary.op c.in-Binary.left c.in-Binary.right c.get-in-Binary.result.now c.get-in-Binary-2.result.now c.in-Binary.is c.get-in-Binary.ensures c.get-in-Binary-2.ensures (c.binary.ensures (spec.closed_within env own (expr_term c.get-in-Binary.result.now)) (spec.closed_within env own (expr_term c.get-in-Binary-2.result.now)) c.expr-in-Binary.ensures c.expr-in-Binary-2.ensures)

pub expr-returns-in-Choice : goal.expr-returns-in-Choice
expr-returns-in-Choice t c =
    let env = c.args.self.now.env.now in
    let own = c.args.self.now.own in
    choice_made env own c.args.e.now c.choice.result c.in-Choice.test c.in-Choice.yes c.in-Choice.no c.get-in-Choice.result.now c.get-in-Choice-2.result.now c.get-in-Choice-3.result.now c.in-Choice.is c.get-in-Choice.ensures c.get-in-Choice-2.ensures c.get-in-Choice-3.ensures (c.choice.ensures (spec.closed_within env own (expr_term c.get-in-Choice.result.now)) (spec.closed_within env own (expr_term c.get-in-Choice-2.result.now)) (spec.closed_within env own (expr_term c.get-in-Choice-3.result.now)) c.expr-in-Choice.ensures c.expr-in-Choice-2.ensures c.expr-in-Choice-3.ensures)

pub expr-returns-in-Sign : goal.expr-returns-in-Sign
expr-returns-in-Sign t c =
    let env = c.args.self.now.env.now in
    let own = c.args.self.now.own in
    sign_made env own c.args.e.now c.sign.result c.in-Sign.signed c.in-Sign.arg c.get-in-Sign.result.now c.in-Sign.is c.get-in-Sign.ensures (c.sign.ensures (spec.closed_within env own (expr_term c.get-in-Sign.result.now)) c.expr-in-Sign.ensures)

pub expr-returns-in-Reduce : goal.expr-returns-in-Reduce
expr-returns-in-Reduce t c =
    let env = c.args.self.now.env.now in
    let own = c.args.self.now.own in
    reduce_made env own c.args.e.now c.reduce.result c.in-Reduce.prop c.in-Reduce.op c.in-Reduce.body c.get-in-Reduce.result.now c.in-Reduce.is c.get-in-Reduce.ensures (c.reduce.ensures (spec.closed_within env (suc own) (expr_term c.get-in-Reduce.result.now)) c.body.ensures)

pub expr-returns-in-None : goal.expr-returns-in-None
expr-returns-in-None t c =
    let env = c.args.self.now.env.now in
    let own = c.args.self.now.own in
    let low = c.in-Select.low in
    let same : to_z w64 (of_z w64 low) ≡ low = search rules in
    bit_made env own c.args.e.now c.bit.result c.in-Select.base c.in-Select.first c.get-in-None.result.now c.get-in-None-2.result.now c.in-Select.last (to_z w64 (of_z w64 low)) low c.in-Select.is same c.in-None.is c.get-in-None.ensures c.get-in-None-2.ensures (c.bit.ensures (spec.closed_within env own (expr_term c.get-in-None.result.now)) (spec.closed_within env own (expr_term c.get-in-None-2.result.now)) c.expr-in-None.ensures c.expr-in-None-2.ensures)

pub expr-returns-in-Some : goal.expr-returns-in-Some
expr-returns-in-Some t c =
    let env = c.args.self.now.env.now in
    let own = c.args.self.now.own in
    let low = c.in-Select.low in
    let same : to_z w64 (of_z w64 low) ≡ low = search rules in
    bits_made env own c.args.e.now c.bits.result c.in-Select.base c.in-Select.first c.in-Some.last c.get-in-Some.result.now c.get-in-Some-2.result.now c.get-in-Some-3.result.now c.in-Select.last (to_z w64 (of_z w64 low)) low c.in-Select.is same c.in-Some.is c.get-in-Some.ensures c.get-in-Some-2.ensures c.get-in-Some-3.ensures (c.bits.ensures (spec.closed_within env own (expr_term c.get-in-Some.result.now)) (spec.closed_within env own (expr_term c.get-in-Some-2.result.now)) (spec.closed_within env own (expr_term c.get-in-Some-3.result.now)) c.expr-base.ensures c.expr-first.ensures c.expr-in-Some.ensures)

pub expr-returns-in-Inside : goal.expr-returns-in-Inside
expr-returns-in-Inside t c =
    let env = c.args.self.now.env.now in
    let own = c.args.self.now.own in
    inside_made env own c.args.e.now c.inside.result c.in-Inside.left c.get-in-Inside.result.now c.in-Inside.set c.as_slice.result.now c.in-Inside.is c.get-in-Inside.ensures c.as_slice.ensures
    (c.inside.ensures (spec.closed_within env own (expr_term c.get-in-Inside.result.now)) (spec.closed_ranges env own (range_terms c.as_slice.result.now)) c.expr-in-Inside.ensures c.ranges-in-Inside.ensures)

pub expr-returns-in-Copies : goal.expr-returns-in-Copies
expr-returns-in-Copies t c =
    let env = c.args.self.now.env.now in
    let own = c.args.self.now.own in
    copies_made env own c.args.e.now c.copies.result c.in-Copies.count c.get-in-Copies.result.now c.in-Copies.parts c.as_slice-in-Copies.result.now c.in-Copies.is c.get-in-Copies.ensures c.as_slice-in-Copies.ensures
    (c.copies.ensures (spec.closed_within env own (expr_term c.get-in-Copies.result.now)) (spec.closed_exprs env own (expr_terms c.as_slice-in-Copies.result.now)) c.expr-in-Copies.ensures c.exprs-in-Copies.ensures)

pub exprs-returns : goal.exprs-returns
exprs-returns t c = exprs_done c.args.self.now.env.now c.args.self.now.own c.loop-e.copies c.args.parts.now c.loop-e.e-index (omega arith) c.loop-e.invariant

pub ranges-returns : goal.ranges-returns
ranges-returns t c = ranges_done c.args.self.now.env.now c.args.self.now.own c.loop-range.copies c.args.set.now c.loop-range.range-index (omega arith) c.loop-range.invariant
