use Rattle.std.proofs.Common.{◌≡◌, ◌∙◌, ◌<◌, ◌≤◌, ℕ, take, length, get_or, nat_lt, ap, sym, arith}
use Rattle.svr_trail.specs.Trail.{is_false, value_in}
use Rattle.svr_watch.specs.Codes.{lit_of}
use Rattle.svr_watch.proofs.Ranking.{later-order, latest-old, latest-new}
use Rattle.svr_watch.proofs.joining.latest.Goals as goal
use Rattle.svr_watch.proofs.joining.latest.Goals.{then-at-last, else-at-last}

pub places-preserved : goal.places-preserved
places-preserved c =
    let es = c.args.trail.now.entries in
    let xs = c.args.codes.now in
    let inv = c.places.invariant in
    let b = c.places.best in
    let p = c.places.place in
    let g = c.falsified_at-at.result in
    let t : p < length xs = c.places-test.true in
    let e : (h : ℕ) → h ≤ length es → is_false (value_in (take h es) (lit_of (get_or xs p 0))) ≡ nat_lt g h
    = λ h o. ap (λ z. is_false (value_in (take h es) z)) (sym c.lit_of-in-places.ensures) ∙ c.falsified_at-at.ensures h o in
    elim c.if-at-last.branch [
      | then-at-last w ↦
          let o : c.places.last ≤ g = omega (arith, w.if-at-last.true) in
          rw (w.best-is, w.last-is) (record {
            low = omega (arith, inv.low, inv.high);
            high = omega arith;
            end = omega (arith, t);
            latest = latest-new es xs c.args.from p b inv.latest (later-order es (get_or xs p 0) (get_or xs b 0) g c.places.last e inv.at o);
            at = e;
          })
      | else-at-last w ↦
          let o : g ≤ c.places.last = omega (arith, w.if-at-last.false) in
          rw (w.best-is, w.last-is) (record {
            low = inv.low;
            high = omega (arith, inv.high);
            end = omega (arith, t);
            latest = latest-old es xs c.args.from p b inv.latest (later-order es (get_or xs b 0) (get_or xs p 0) c.places.last g inv.at e o);
            at = inv.at;
          })
    ]
