use Rattle.std.proofs.Common.{◌≡◌, ◌+◌, ◌*◌, ◌||◌, max, List, refl, sym, ap, ◌∙◌, arith}
use Rattle.std.specs.Prelude.{if◌then◌else◌, slice_index}
use Rattle.svr_eval.specs.declared.operator.UnaryKind.TheVariants.{Changed, Reduced}
use Rattle.svr_eval.specs.declared.operator.BinaryKind.TheVariants.{InContext, Shifted, ByPair, Logical}
use Rattle.svr_typed.specs.declared.expr.TExpr.{TExpr}
use Rattle.svr_typed.specs.declared.expr.TRange.{TRange}
use Rattle.svr_typed.specs.ExprTerm.{ExprTerm, expr_term, expr_terms, range_term, range_terms}
use Rattle.svr_eval.specs.Value.{size_of}
use Rattle.svr_frame.specs.Frame.{frame_term}
use Rattle.svr_frame.specs.Weight.{capped, arithmetic_cost, change_cost, fold_cost}
use Rattle.svr_weight.specs.Costs as spec
use Rattle.svr_weight.specs.Costs.{cost, own_cost}
use Rattle.svr_weight.proofs.Caps.{sum_from, exact_from, times_from, regrouped, if_so, if_not, own_width, turn_added}
use Rattle.svr_weight.proofs.Counted.{typed_from}
use Rattle.svr_weight.proofs.Turns.{ranges_from}
use Rattle.svr_weight.proofs.Operands.{unary_is, binary_is}
use Rattle.svr_weight.proofs.cost.+cost.Goals as goal
use Rattle.svr_weight.proofs.cost.+cost.Goals.{bit_cost-then-holds_size, bit_cost-else-holds_size}

pub binary_cost-returns-in-InContext : goal.binary_cost-returns-in-InContext
binary_cost-returns-in-InContext t c =
    let f = frame_term c.args.frame.now in
    let part = c.args.part in
    let ns = c.args.sizes.now in
    let x = expr_term c.args.left.now in
    let y = expr_term c.args.right.now in
    let kind = sym c.binary_kind.ensures ∙ c.in-InContext.is in
    let w = c.args.width in
    let own = arithmetic_cost c.in-InContext.arithmetic w in
    sum_from _ _ (own + cost f part ns x w) (cost f part ns y w) _ c.add.ensures (exact_from _ own _ (cost f part ns x w) _ c.add-first.ensures c.arithmetic_cost.ensures c.cost.ensures) c.cost-in-InContext.ensures
    ∙ binary_is f part ns c.args.op (InContext c.in-InContext.arithmetic) x y w kind

pub binary_cost-returns-in-Shifted : goal.binary_cost-returns-in-Shifted
binary_cost-returns-in-Shifted t c =
    let f = frame_term c.args.frame.now in
    let part = c.args.part in
    let ns = c.args.sizes.now in
    let x = expr_term c.args.left.now in
    let y = expr_term c.args.right.now in
    let kind = sym c.binary_kind.ensures ∙ c.in-Shifted.is in
    let w = c.args.width in
    sum_from _ _ (8 * w + cost f part ns x w) (own_cost f part ns y) _ c.add-in-Shifted.ensures
    (exact_from _ (8 * w) _ (cost f part ns x w) _ c.add-first-in-Shifted.ensures (ap (λ n. 8 * n) c.from.ensures) c.cost-in-Shifted.ensures) c.own_cost.ensures
    ∙ binary_is f part ns c.args.op (Shifted c.in-Shifted.field-0) x y w kind

pub binary_cost-returns-in-ByPair : goal.binary_cost-returns-in-ByPair
binary_cost-returns-in-ByPair t c =
    let f = frame_term c.args.frame.now in
    let part = c.args.part in
    let ns = c.args.sizes.now in
    let x = expr_term c.args.left.now in
    let y = expr_term c.args.right.now in
    let kind = sym c.binary_kind.ensures ∙ c.in-ByPair.is in
    c.pair_cost.ensures ∙ binary_is f part ns c.args.op (ByPair c.in-ByPair.field-0) x y c.args.width kind

pub binary_cost-returns-in-Logical : goal.binary_cost-returns-in-Logical
binary_cost-returns-in-Logical t c =
    let f = frame_term c.args.frame.now in
    let part = c.args.part in
    let ns = c.args.sizes.now in
    let x = expr_term c.args.left.now in
    let y = expr_term c.args.right.now in
    let wide_x = own_width c.args.left.now c.requires.left_typed in
    let wide_y = own_width c.args.right.now c.requires.right_typed in
    let kind = sym c.binary_kind.ensures ∙ c.in-Logical.is in
    let widths = size_of x + size_of y in
    sum_from _ _ (widths + own_cost f part ns x) (own_cost f part ns y) _ c.add-in-Logical.ensures
    (exact_from _ widths _ (own_cost f part ns x) _ c.add-first-in-Logical.ensures (λ k. (c.from-in-Logical.ensures ∙ sym wide_x) k + (c.from-in-Logical-2.ensures ∙ sym wide_y) k) c.own_cost-in-Logical.ensures) c.own_cost-in-Logical-2.ensures
    ∙ binary_is f part ns c.args.op (Logical c.in-Logical.field-0) x y c.args.width kind

pub bit_cost-returns : goal.bit_cost-returns
bit_cost-returns t c =
    let f = frame_term c.args.frame.now in
    let part = c.args.part in
    let ns = c.args.sizes.now in
    let base = expr_term c.args.base.now in
    let first = expr_term c.args.first.now in
    let b = own_cost f part ns base in
    let e = own_cost f part ns first in
    let shift = 8 * size_of base in
    let holds = spec.holds_size f part ns first in
    let own : c.if-holds_size.own ≡ (if holds then shift else 1) = elim c.if-holds_size.branch [
      | bit_cost-then-holds_size w ↦
          w.own-is ∙ ap (λ n. 8 * n) (w.from.ensures ∙ sym (own_width c.args.base.now c.requires.base_typed)) ∙ if_so holds shift 1 (sym c.holds_size.ensures ∙ w.if-holds_size.true)
      | bit_cost-else-holds_size w ↦ w.own-is ∙ if_not holds shift 1 (sym c.holds_size.ensures ∙ w.if-holds_size.false)
    ] in
    exact_from _ (if holds then shift else 1) _ (b + e) _ c.add.ensures own (sum_from _ _ b e _ c.add-parts.ensures c.own_cost.ensures c.own_cost-2.ensures)
    ∙ regrouped (if holds then shift else 1) b e

pub bits_cost-returns : goal.bits_cost-returns
bits_cost-returns t c =
    let f = frame_term c.args.frame.now in
    let part = c.args.part in
    let ns = c.args.sizes.now in
    let base = expr_term c.args.base.now in
    let first = expr_term c.args.first.now in
    let last = expr_term c.args.last.now in
    let b = own_cost f part ns base in
    let e = own_cost f part ns first in
    let l = own_cost f part ns last in
    sum_from _ _ (1 + b) (e + l) _ c.add-2.ensures (exact_from 1 1 _ b _ c.add.ensures refl c.own_cost-3.ensures) (sum_from _ _ e l _ c.add-bounds.ensures c.own_cost.ensures c.own_cost-2.ensures)
    ∙ regrouped (1 + b) e l

pub cell_cost-returns-then-either_opens : goal.cell_cost-returns-then-either_opens
cell_cost-returns-then-either_opens t c =
    let f = frame_term c.args.frame.now in
    let part = c.args.part in
    let ns = c.args.sizes.now in
    let first = expr_term c.args.first.now in
    let second = expr_term c.args.second.now in
    let choice = c.args.width * slice_index ns c.args.prop in
    let x = own_cost f part ns first in
    let y = own_cost f part ns second in
    let opened = spec.opens f part ns first || spec.opens f part ns second in
    sum_from _ _ (choice + x) y _ c.add.ensures
    (exact_from _ choice _ x _ c.add-row.ensures (λ k. c.from.ensures k * (c.from-then-either_opens.ensures ∙ c.size_at.ensures) k) c.own_cost.ensures) c.own_cost-then-either_opens.ensures
    ∙ ap capped (if_so opened (choice + x + y) 1 (sym c.either_opens.ensures ∙ c.if-either_opens.true))

pub element_cost-returns-then-opens : goal.element_cost-returns-then-opens
element_cost-returns-then-opens t c =
    let f = frame_term c.args.frame.now in
    let part = c.args.part in
    let ns = c.args.sizes.now in
    let index = expr_term c.args.index.now in
    let choice = c.args.width * slice_index ns c.args.prop in
    let x = own_cost f part ns index in
    exact_from _ choice _ x _ c.add.ensures (λ k. c.from.ensures k * (c.from-then-opens.ensures ∙ c.size_at.ensures) k) c.own_cost.ensures
    ∙ ap capped (if_so (spec.opens f part ns index) (choice + x) 1 (sym c.opens.ensures ∙ c.if-opens.true))

pub choice_cost-returns : goal.choice_cost-returns
choice_cost-returns t c =
    let f = frame_term c.args.frame.now in
    let part = c.args.part in
    let ns = c.args.sizes.now in
    let test = expr_term c.args.test.now in
    let met = expr_term c.args.yes.now in
    let unmet = expr_term c.args.no.now in
    let w = c.args.width in
    let x = own_cost f part ns test in
    let y = cost f part ns met w in
    let z = cost f part ns unmet w in
    sum_from _ _ (w + x) (y + z) _ c.add.ensures (exact_from _ w _ x _ c.add-tested.ensures c.from.ensures c.own_cost.ensures) (sum_from _ _ y z _ c.add-chosen.ensures c.cost.ensures c.cost-2.ensures)
    ∙ regrouped (w + x) y z

pub copies_cost-returns : goal.copies_cost-returns
copies_cost-returns t c =
    let f = frame_term c.args.frame.now in
    let part = c.args.part in
    let ns = c.args.sizes.now in
    let count = expr_term c.args.count.now in
    let n = own_cost f part ns count in
    sum_from _ _ (1 + n) (spec.exprs_cost f part ns (expr_terms c.args.parts.now)) _ c.add.ensures (exact_from 1 1 _ n _ c.add-counted.ensures refl c.own_cost.ensures) c.exprs_cost.ensures

pub inside_cost-returns : goal.inside_cost-returns
inside_cost-returns t c =
    let f = frame_term c.args.frame.now in
    let part = c.args.part in
    let ns = c.args.sizes.now in
    let left = expr_term c.args.left.now in
    let set = range_terms c.args.set.now in
    sum_from _ _ (own_cost f part ns left) (spec.ranges_cost f part ns (size_of left) set) _ c.add.ensures c.own_cost.ensures
    (c.ranges_cost-members.ensures ∙ ap (λ n. capped (spec.ranges_cost f part ns n set)) (sym (own_width c.args.left.now c.requires.left_typed)))

pub pair_cost-returns : goal.pair_cost-returns
pair_cost-returns t c =
    let f = frame_term c.args.frame.now in
    let part = c.args.part in
    let ns = c.args.sizes.now in
    let x = expr_term c.args.left.now in
    let y = expr_term c.args.right.now in
    let wide_x = own_width c.args.left.now c.requires.left_typed in
    let wide_y = own_width c.args.right.now c.requires.right_typed in
    let n = max (size_of x) (size_of y) in
    let common : c.max-common.result ≡ n = c.max-common.ensures ∙ (λ k. max (sym wide_x k) (sym wide_y k)) in
    let at : (e : ExprTerm) → capped (cost f part ns e c.max-common.result) ≡ capped (cost f part ns e n) = λ e. ap (λ m. capped (cost f part ns e m)) common in
    sum_from _ _ (n + cost f part ns x n) (cost f part ns y n) _ c.add.ensures
    (exact_from _ n _ (cost f part ns x n) _ c.add-first.ensures (c.from.ensures ∙ common) (c.cost.ensures ∙ at x)) (c.cost-2.ensures ∙ at y)

pub reduce_cost-returns : goal.reduce_cost-returns
reduce_cost-returns t c =
    let f = frame_term c.args.frame.now in
    let part = c.args.part in
    let ns = c.args.sizes.now in
    let body = expr_term c.args.body.now in
    times_from _ (slice_index ns c.args.prop) _ (spec.step_cost f part ns c.args.op body) _ c.for_each_element.ensures refl c.step_cost-each.ensures

pub step_cost-returns : goal.step_cost-returns
step_cost-returns t c =
    let f = frame_term c.args.frame.now in
    let part = c.args.part in
    let ns = c.args.sizes.now in
    let body = expr_term c.args.body.now in
    exact_from _ (fold_cost c.args.op (size_of body)) _ (own_cost f part ns body) _ c.add.ensures
    (c.fold_cost.ensures ∙ ap (fold_cost c.args.op) (sym (own_width c.args.body.now c.requires))) c.own_cost.ensures

pub unary_cost-returns-in-Changed : goal.unary_cost-returns-in-Changed
unary_cost-returns-in-Changed t c =
    let f = frame_term c.args.frame.now in
    let part = c.args.part in
    let ns = c.args.sizes.now in
    let x = expr_term c.args.x.now in
    let kind = sym c.unary_kind.ensures ∙ c.in-Changed.is in
    let w = c.args.width in
    exact_from _ (change_cost c.in-Changed.change w) _ (cost f part ns x w) _ c.add.ensures c.change_cost.ensures c.cost.ensures
    ∙ unary_is f part ns c.args.op (Changed c.in-Changed.change) x w kind

pub unary_cost-returns-in-Reduced : goal.unary_cost-returns-in-Reduced
unary_cost-returns-in-Reduced t c =
    let f = frame_term c.args.frame.now in
    let part = c.args.part in
    let ns = c.args.sizes.now in
    let x = expr_term c.args.x.now in
    let kind = sym c.unary_kind.ensures ∙ c.in-Reduced.is in
    exact_from _ (size_of x) _ (own_cost f part ns x) _ c.add-in-Reduced.ensures (c.from.ensures ∙ sym (own_width c.args.x.now c.requires.typed)) c.own_cost.ensures
    ∙ unary_is f part ns c.args.op (Reduced c.in-Reduced.field-0) x c.args.width kind

pub value_cost-returns : goal.value_cost-returns
value_cost-returns t c =
    let f = frame_term c.args.frame.now in
    let part = c.args.part in
    let ns = c.args.sizes.now in
    let e = expr_term c.args.e.now in
    let n = max c.args.width (size_of e) in
    let common : c.max-common.result ≡ n = c.max-common.ensures ∙ ap (max c.args.width) (sym (own_width c.args.e.now c.requires.typed)) in
    exact_from _ n _ (cost f part ns e n) _ c.add.ensures (c.from.ensures ∙ common) (c.cost.ensures ∙ ap (λ m. capped (cost f part ns e m)) common)

pub exprs_cost-loop-e-preserved : goal.exprs_cost-loop-e-preserved
exprs_cost-loop-e-preserved t c =
    let f = frame_term c.args.frame.now in
    record {
      typed = typed_from c.args.parts.now (c.loop-e.e-index + 1) c.requires;
      small = omega (arith, c.add-sum.ensures);
      told = turn_added (λ (es : List TExpr). spec.exprs_cost f c.args.part c.args.sizes.now (expr_terms es)) (own_cost f c.args.part c.args.sizes.now (expr_term c.e-item.result))
          c.args.parts.now c.loop-e.e-index c.e-item.result c.loop-e.sum _ _ c.loop-e-test.true c.e-item.is refl c.add-sum.ensures c.own_cost.ensures c.loop-e.invariant.told;
    }

pub ranges_cost-loop-range-preserved : goal.ranges_cost-loop-range-preserved
ranges_cost-loop-range-preserved t c =
    let f = frame_term c.args.frame.now in
    record {
      typed = ranges_from c.args.set.now (c.loop-range.range-index + 1) c.requires.typed;
      small = omega (arith, c.add-sum.ensures);
      told = turn_added (λ (rs : List TRange). spec.ranges_cost f c.args.part c.args.sizes.now c.args.width (range_terms rs)) (spec.range_cost f c.args.part c.args.sizes.now c.args.width (range_term c.range-item.result))
          c.args.set.now c.loop-range.range-index c.range-item.result c.loop-range.sum _ _ c.loop-range-test.true c.range-item.is refl c.add-sum.ensures c.range_cost.ensures c.loop-range.invariant.told;
    }
