use Rattle.std.proofs.Common.{arith, ◌+◌, ◌&&◌, sym, ap, ◌∙◌, Bool, List, length, drop}
use Rattle.svr_typed.specs.declared.item.TItem.{TItem}
use Rattle.svr_typed.specs.ItemTerm.{item_terms}
use Rattle.svr_eval.specs.Reading.{reading_of}
use Rattle.svr_eval.specs.Holds.{all_hold}
use Rattle.svr_eval.proofs.Loops.{foreach_fails, foreach_holds, row_fails}
use Rattle.svr_eval.proofs.Turns.{turned, items_typed, items_read}
use Rattle.svr_eval.proofs.item.+holds.Goals as goal

pub holds-returns-then-not-row_holds : goal.holds-returns-then-not-row_holds
holds-returns-then-not-row_holds t c =
    let fails = rw (c.inner.ensures, c.as_slice-in-loop-i.ensures) at c.row_holds.ensures in
    foreach_fails (reading_of c.args.a.now) c.args.env.now c.args.item.now c.in-Foreach.array c.in-Foreach.inner c.in-Foreach.names c.in-Foreach.body c.in-Foreach.is c.loop-i.i
    (rw c.size.ensures at c.loop-i-test.true) (sym fails ∙ c.if-not-row_holds.true)

pub holds-returns-after-loop-i : goal.holds-returns-after-loop-i
holds-returns-after-loop-i t c =
    let least = rw c.size.ensures at c.loop-i-test.false in
    let most = rw c.size.ensures at c.loop-i.auto.i-end in
    foreach_holds (reading_of c.args.a.now) c.args.env.now c.args.item.now c.in-Foreach.array c.in-Foreach.inner c.in-Foreach.names c.in-Foreach.body c.in-Foreach.is c.loop-i.i
    (omega (arith, least, most)) c.loop-i.invariant

pub row_holds-returns-then-not-all_hold : goal.row_holds-returns-then-not-all_hold
row_holds-returns-then-not-all_hold t c =
    let fails = rw c.inner.ensures at c.all_hold-in-loop-j.ensures in
    row_fails c.args.inner c.args.names c.loop-j.j (λ indexes. all_hold (reading_of c.args.a.now) indexes (item_terms c.args.body.now)) c.args.env.now
    c.if-names-ne2.false c.loop-j-test.true (sym fails ∙ c.if-not-all_hold.true)

pub all_hold-loop-item-preserved : goal.all_hold-loop-item-preserved
all_hold-loop-item-preserved t c =
    let a = reading_of c.args.a.now in
    let env = c.args.env.now in
    let items = c.args.items.now in
    let next = c.loop-item.item-index + 1 in
    let told = λ (is : List TItem). all_hold a env (item_terms is) in
    record {
      typed = items_typed items next c.requires.typed;
      reads = items_read a (length env) items next c.requires.reads;
      same = turned told items c.loop-item.item-index c.item-item.result c.loop-item-test.true c.item-item.is
          (ap (λ (b : Bool). b && told (drop next items)) (sym c.holds.ensures ∙ c.if-not-holds.false)) c.loop-item.invariant.same;
    }
