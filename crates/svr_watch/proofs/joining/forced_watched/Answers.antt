use Rattle.std.proofs.Common.{◌≡◌, ◌∙◌, Bool, true, false, Option, Some, None, get_or, refl, ap, sym}
use Rattle.svr_trail.specs.Trail.{value_in, is_false}
use Rattle.svr_watch.specs.Codes.{lit_of}
use Rattle.svr_watch.proofs.Ranking.{unit-first, unit-open, unit-second}
use Rattle.svr_watch.proofs.joining.forced_watched.Goals as goal

false-some : (o : Option Bool) → is_false o ≡ true → o ≡ Some false
false-some None f = cc
false-some (Some true) f = cc
false-some (Some false) f = refl

pub returns-then-not-has_value-clause-none : goal.returns-then-not-has_value-clause-none
returns-then-not-has_value-clause-none c = λ p u.
    let es = c.args.trail.now.entries in
    let xs = c.args.codes.now in
    let f = unit-second es xs c.requires.ranked c.requires.two c.requires.apart p u in
    let v : value_in es (lit_of (get_or xs 1 0)) ≡ Some false = false-some (value_in es (lit_of (get_or xs 1 0))) f in
    c.has_value.ensures.no c.if-not-has_value.true (ap (value_in es) c.lit_of-second.ensures ∙ v)

pub returns-in-Some-clause-none : goal.returns-in-Some-clause-none
returns-in-Some-clause-none c = λ p u.
    let es = c.args.trail.now.entries in
    let xs = c.args.codes.now in
    let o : value_in es (lit_of (get_or xs 0 0)) ≡ None = unit-open es xs c.requires.ranked c.requires.two p u in
    let v : Some c.in-Some.field-0 ≡ None = sym c.in-Some.is ∙ (c.value.ensures ∙ (ap (value_in es) c.lit_of-first.ensures ∙ o)) in
    cc

pub returns-in-None-clause-some : goal.returns-in-None-clause-some
returns-in-None-clause-some c =
    let es = c.args.trail.now.entries in
    let xs = c.args.codes.now in
    let e = c.lit_of-first.ensures in
    let v : value_in es (lit_of (get_or xs 0 0)) ≡ None = ap (value_in es) (sym e) ∙ (sym c.value.ensures ∙ c.in-None.is) in
    let f : value_in es (lit_of (get_or xs 1 0)) ≡ Some false = ap (value_in es) (sym c.lit_of-second.ensures) ∙ c.has_value.ensures.yes c.if-not-has_value.false in
    rw e (unit-first es xs c.requires.ranked c.requires.two v (ap is_false f))
