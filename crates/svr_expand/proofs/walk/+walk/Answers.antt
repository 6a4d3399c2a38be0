use Rattle.std.proofs.Common.{◌/◌, refl, sym, ◌∙◌}
use Rattle.svr_typed.specs.ItemTerm.{item_terms}
use Rattle.svr_expand.specs.Expanded.{place_of, findings}
use Rattle.svr_expand.proofs.Arms.{on_then, loop_found, branch_found}
use Rattle.svr_expand.proofs.Still.{over_facts, stands_within, turn_more, turns_over, row_more, loop_over}
use Rattle.svr_expand.proofs.walk.+walk.Goals as goal

pub add_turns-loop-i-preserved : goal.add_turns-loop-i-preserved
add_turns-loop-i-preserved t c =
    let at = c.args.at.now in
    let env = c.args.env.now in
    let p = c.args.array in
    let i = c.loop-i.i in
    let place = c.looped-place.result in
    let here = stands_within place at env c.inner.result p i c.looped-place.ensures.guards c.looped-place.ensures.over c.inner.ensures in
    turn_more c.args.set.now (place_of at env) p (item_terms c.args.body.now) i c.args.out.now c.loop-i.out c.add_items.new.out (place_of place c.inner.result) here c.loop-i.invariant c.in_ok-add_items.ensures

pub add_turns-returns-then-is_over : goal.add_turns-returns-then-is_over
add_turns-returns-then-is_over t c =
    let at = c.args.at.now in
    let env = c.args.env.now in
    let p = c.args.array in
    let i = c.loop-i.i in
    let place = c.looped-place.result in
    let here = stands_within place at env c.inner.result p i c.looped-place.ensures.guards c.looped-place.ensures.over c.inner.ensures in
    let facts = over_facts c.turns_differ-differ.result c.is_over.result c.len-before.result c.len-after.result c.is_over.ensures c.if-is_over.true in
    turns_over c.args.set.now (place_of at env) p (item_terms c.args.body.now) (sym c.turns_differ-differ.ensures ∙ facts.0) i c.args.count c.args.out.now c.loop-i.out c.add_items.new.out (place_of place c.inner.result) here c.loop-i.invariant c.in_ok-add_items.ensures
    (sym c.len-after.ensures ∙ facts.1 ∙ c.len-before.ensures)

pub add_loop-loop-i-preserved : goal.add_loop-loop-i-preserved
add_loop-loop-i-preserved t c =
    let at = c.args.at.now in
    let env = c.args.env.now in
    let p = c.args.array in
    let i = c.loop-i.i in
    let place = c.looped-place.result in
    let here = stands_within place at env c.inner.result p i c.looped-place.ensures.guards c.looped-place.ensures.over c.inner.ensures in
    row_more c.args.set.now (place_of at env) p (item_terms c.args.body.now) c.args.inner c.args.names i c.args.out.now c.loop-i.out c.add_row.new.out (place_of place c.inner.result) here c.loop-i.invariant c.in_ok-add_row.ensures

pub add_loop-returns-then-is_over : goal.add_loop-returns-then-is_over
add_loop-returns-then-is_over t c =
    let at = c.args.at.now in
    let env = c.args.env.now in
    let p = c.args.array in
    let i = c.loop-i.i in
    let place = c.looped-place.result in
    let here = stands_within place at env c.inner.result p i c.looped-place.ensures.guards c.looped-place.ensures.over c.inner.ensures in
    let facts = over_facts c.turns_differ-differ.result c.is_over.result c.len-before.result c.len-after.result c.is_over.ensures c.if-is_over.true in
    loop_over c.args.set.now (place_of at env) p (item_terms c.args.body.now) c.args.inner c.args.names (sym c.turns_differ-differ.ensures ∙ facts.0) i c.args.rows c.args.out.now c.loop-i.out c.add_row.new.out (place_of place c.inner.result) here c.loop-i.invariant c.in_ok-add_row.ensures
    (sym c.len-after.ensures ∙ facts.1 ∙ c.len-before.ensures)

pub add_item-returns-in-Foreach : goal.add_item-returns-in-Foreach
add_item-returns-in-Foreach t c =
    on_then c.add_loop.result
    (loop_found c.args.set.now (place_of c.args.at.now c.args.env.now) c.args.item.now c.in-Foreach.array c.in-Foreach.inner c.in-Foreach.names c.size_at.result (c.size_at.result / c.in-Foreach.inner) c.in-Foreach.body c.as_slice-body.result.now
    (findings c.args.out.now) (findings c.add_loop.new.out) c.in-Foreach.is c.as_slice-body.ensures c.size_at.ensures refl)
    c.add_loop.ensures

pub add_item-returns-in-Some : goal.add_item-returns-in-Some
add_item-returns-in-Some t c =
    on_then c.add_items-in-Some.result
    (branch_found c.args.set.now c.args.env.now c.args.at.now c.args.item.now c.in-Branch.test c.in-Branch.yes c.in-Some.body c.as_slice-in-Branch.result.now c.as_slice-in-Some.result.now c.in-Branch.no
    (findings c.args.out.now) (findings c.add_items-in-Branch.new.out) (findings c.add_items-in-Some.new.out) _ _ _ _ _ _ c.in-Branch.is c.in-Some.is c.as_slice-in-Branch.ensures c.as_slice-in-Some.ensures refl refl refl refl refl refl c.in_ok-add_items-in-Branch.ensures)
    c.add_items-in-Some.ensures
