use Rattle.std.proofs.Common.{◌≡◌, ◌∙◌, ◌<◌, length, ap}
use Rattle.std.specs.List.{swap}
use Rattle.svr_watch.specs.Watch.{IsLatest}
use Rattle.svr_watch.proofs.Ranking.{ranked, rank-lits, rank-same}
use Rattle.svr_watch.proofs.joining.rank.Goals as goal

pub returns-clause-ranked : goal.returns-clause-ranked
returns-clause-ranked c =
    let es = c.args.trail.now.entries in
    let xs = c.args.codes.now in
    let p = c.latest-first.result in
    let q = c.latest-second.result in
    let y : c.swap.new.self ≡ swap xs 0 p = c.swap.ensures.after in
    let hq : q < length (swap xs 0 p) = rw y at c.latest-second.ensures.high in
    let l : IsLatest es (swap xs 0 p) 1 (length (swap xs 0 p)) q = rw y at c.latest-second.ensures.last in
    let z : c.swap-2.new.self ≡ swap (swap xs 0 p) 1 q = c.swap-2.ensures.after ∙ ap (λ v. swap v 1 q) y in
    rw z (ranked es xs p q c.requires c.latest-first.ensures.high c.latest-first.ensures.last c.latest-second.ensures.low hq l)

pub returns-clause-lits : goal.returns-clause-lits
returns-clause-lits c = λ n a.
    let es = c.args.trail.now.entries in
    let xs = c.args.codes.now in
    let p = c.latest-first.result in
    let q = c.latest-second.result in
    let y : c.swap.new.self ≡ swap xs 0 p = c.swap.ensures.after in
    let hq : q < length (swap xs 0 p) = rw y at c.latest-second.ensures.high in
    let l : IsLatest es (swap xs 0 p) 1 (length (swap xs 0 p)) q = rw y at c.latest-second.ensures.last in
    let z : c.swap-2.new.self ≡ swap (swap xs 0 p) 1 q = c.swap-2.ensures.after ∙ ap (λ v. swap v 1 q) y in
    rw z (rank-lits es xs p q c.requires c.latest-first.ensures.high c.latest-first.ensures.last c.latest-second.ensures.low hq l n a)

pub returns-clause-same : goal.returns-clause-same
returns-clause-same c = λ x.
    let es = c.args.trail.now.entries in
    let xs = c.args.codes.now in
    let p = c.latest-first.result in
    let q = c.latest-second.result in
    let y : c.swap.new.self ≡ swap xs 0 p = c.swap.ensures.after in
    let hq : q < length (swap xs 0 p) = rw y at c.latest-second.ensures.high in
    let l : IsLatest es (swap xs 0 p) 1 (length (swap xs 0 p)) q = rw y at c.latest-second.ensures.last in
    let z : c.swap-2.new.self ≡ swap (swap xs 0 p) 1 q = c.swap-2.ensures.after ∙ ap (λ v. swap v 1 q) y in
    rw z (rank-same es xs p q c.requires c.latest-first.ensures.high c.latest-first.ensures.last c.latest-second.ensures.low hq l x)
