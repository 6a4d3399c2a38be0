use Rattle.std.proofs.Common.{ℕ, ◌≤◌, get_or, length, refl, sym, take}
use Rattle.std.proofs.lemmas.List.{take_all}
use Rattle.std.proofs.lemmas.List.Elements.{All-more, All-nil, All-same}
use Rattle.svr_watch.specs.Store.{IsNoPart}
use Rattle.svr_watch.proofs.find.apart_part.Goals as goal

pub loop-place-init : goal.loop-place-init
loop-place-init c = All-nil (IsNoPart c.args.clauses.now c.args.lits.now)

pub loop-place-preserved : goal.loop-place-preserved
loop-place-preserved c =
    All-more (IsNoPart c.args.clauses.now c.args.lits.now) c.args.places.now c.loop-place.place-index 0 c.loop-place-test.true c.loop-place.invariant (c.is_part_at.ensures.no c.if-is_part_at.false)

pub returns-then-is_part_at-clause-some : goal.returns-then-is_part_at-clause-some
returns-then-is_part_at-clause-some c =
    let i : ℕ = get_or c.args.places.now c.loop-place.place-index 0 in
    (i, refl, c.is_part_at.ensures.yes c.if-is_part_at.true)

pub returns-clause-none : goal.returns-clause-none
returns-clause-none c =
    let places = c.args.places.now in
    let i = c.loop-place.place-index in
    let o : length places ≤ i = c.loop-place-test.false in
    All-same (IsNoPart c.args.clauses.now c.args.lits.now) places (take i places) (sym (take_all i places o)) c.loop-place.invariant
