use Rattle.std.proofs.Common.{arith, rules, ◌≡◌, ◌*◌, ◌/◌}
use Rattle.std.specs.Prelude.{slice_index, IfOk}
use Rattle.std.proofs.lemmas.Result.{IfOk-weaker}
use Rattle.svr_typed.specs.ItemTerm.{item_terms}
use Rattle.svr_frame.specs.Frame.{frame_term}
use Rattle.svr_counts.specs.Counting.{row_turns, items_number}
use Rattle.svr_counts.proofs.Counted.{no_turns, loop_turns, foreach_term}
use Rattle.svr_counts.proofs.items.+items.Goals as goal

pub foreach_count-returns-then-count-eq0 : goal.foreach_count-returns-then-count-eq0
foreach_count-returns-then-count-eq0 t c =
    no_turns c.turns-count.result c.size_at.result (slice_index c.args.sizes.now c.args.array) c.args.inner (row_turns c.args.inner c.args.names) (items_number (frame_term c.args.frame.now) c.args.sizes.now (item_terms c.args.body.now))
    c.turns-count.ensures c.size_at.ensures (omega arith)

pub foreach_count-returns : goal.foreach_count-returns
foreach_count-returns t c =
    IfOk-weaker c.times.result _ _
    (λ n h.
    loop_turns n c.turns-count.result c.in_ok-each.each c.size_at.result (slice_index c.args.sizes.now c.args.array) c.args.inner (row_turns c.args.inner c.args.names)
    (items_number (frame_term c.args.frame.now) c.args.sizes.now (item_terms c.args.body.now)) h c.turns-count.ensures c.size_at.ensures c.in_ok-each.ensures) c.times.ensures

pub item_count-returns-in-Foreach : goal.item_count-returns-in-Foreach
item_count-returns-in-Foreach t c =
    let f = frame_term c.args.frame.now in
    let ns = c.args.sizes.now in
    let each : IfOk c.foreach_count.result (λ n. n ≡ (slice_index ns c.in-Foreach.array / c.in-Foreach.inner) * row_turns c.in-Foreach.inner c.in-Foreach.names * items_number f ns (item_terms c.in-Foreach.body)) = search rules in
    rw (c.in-Foreach.is, foreach_term c.in-Foreach.array c.in-Foreach.inner c.in-Foreach.names c.in-Foreach.body) each
