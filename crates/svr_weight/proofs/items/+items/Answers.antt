use Rattle.std.proofs.Common.{◌≡◌, ◌+◌, ◌∙◌, List, arith, refl}
use Rattle.std.specs.Prelude.{slice_index, true, false}
use Rattle.svr_typed.specs.declared.item.TItem.{TItem}
use Rattle.svr_typed.specs.ItemTerm.{item_term, item_terms}
use Rattle.svr_typed.specs.ExprTerm.{expr_term}
use Rattle.svr_frame.specs.Frame.{frame_term}
use Rattle.svr_frame.specs.Weight.{capped}
use Rattle.svr_weight.specs.Weighing.{row_turns, in_loop_over, with_test, item_weight, items_weight}
use Rattle.svr_weight.proofs.Caps.{loop_capped, foreach_term, turn_added, sum_from}
use Rattle.svr_weight.proofs.Turns.{items_from, branch_term}
use Rattle.svr_weight.proofs.items.+items.Goals as goal

pub item_weight-returns-in-Foreach : goal.item_weight-returns-in-Foreach
item_weight-returns-in-Foreach t c =
    let f = frame_term c.args.frame.now in
    let body = items_weight f c.args.part c.args.sizes.now (in_loop_over f c.args.part c.args.around c.in-Foreach.array) (item_terms c.in-Foreach.body) in
    let each : c.items_weight-each.result ≡ capped body =
    c.items_weight-each.ensures ∙ (λ k. capped (items_weight f c.args.part c.args.sizes.now (c.in_loop_over-place.ensures k) (item_terms (c.as_slice-in-Foreach.ensures k)))) in
    let sum =
    loop_capped c.times.result c.turns.result c.items_weight-each.result c.size_at.result (slice_index c.args.sizes.now c.in-Foreach.array) c.in-Foreach.inner (row_turns c.in-Foreach.inner c.in-Foreach.names) body c.times.ensures
    c.turns.ensures c.size_at.ensures each in
    rw (c.in-Foreach.is, foreach_term c.in-Foreach.array c.in-Foreach.inner c.in-Foreach.names c.in-Foreach.body) sum

pub items_weight-loop-item-preserved : goal.items_weight-loop-item-preserved
items_weight-loop-item-preserved t c =
    let f = frame_term c.args.frame.now in
    record {
      typed = items_from c.args.items.now (c.loop-item.item-index + 1) c.requires;
      small = omega (arith, c.add-sum.ensures);
      told = turn_added (λ (is : List TItem). items_weight f c.args.part c.args.sizes.now c.args.around (item_terms is)) (item_weight f c.args.part c.args.sizes.now c.args.around (item_term c.item-item.result))
          c.args.items.now c.loop-item.item-index c.item-item.result c.loop-item.sum _ _ c.loop-item-test.true c.item-item.is refl c.add-sum.ensures c.item_weight.ensures c.loop-item.invariant.told;
    }

pub item_weight-returns-in-Some : goal.item_weight-returns-in-Some
item_weight-returns-in-Some t c =
    let f = frame_term c.args.frame.now in
    let test = expr_term c.in-Branch.test in
    let met = items_weight f c.args.part c.args.sizes.now (with_test f c.args.part c.args.sizes.now c.args.around test true) (item_terms c.in-Branch.yes) in
    let unmet = items_weight f c.args.part c.args.sizes.now (with_test f c.args.part c.args.sizes.now c.args.around test false) (item_terms c.in-Some.no) in
    let first : c.items_weight-first.result ≡ capped met =
    c.items_weight-first.ensures ∙ (λ k. capped (items_weight f c.args.part c.args.sizes.now (c.with_test-met.ensures k) (item_terms (c.as_slice-in-Branch.ensures k)))) in
    let second : c.items_weight-in-Some.result ≡ capped unmet =
    c.items_weight-in-Some.ensures ∙ (λ k. capped (items_weight f c.args.part c.args.sizes.now (c.with_test-unmet.ensures k) (item_terms (c.as_slice-in-Some.ensures k)))) in
    rw (c.in-Branch.is, c.in-Some.is, branch_term c.in-Branch.test c.in-Branch.yes c.in-Some.no) (sum_from _ _ met unmet _ c.add.ensures first second)
