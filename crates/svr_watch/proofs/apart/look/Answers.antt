use Rattle.std.proofs.Common.{◌≡◌, ◌∙◌, true, false, ◌||◌, None, Some, ap, sym, arith, inl, inr}
use Rattle.std.specs.List.{slice_get}
use Rattle.std.proofs.lemmas.Bool.{or_left}
use Rattle.svr_chain.specs.declared.clause.Lit.{Lit}
use Rattle.svr_chain.specs.Clauses.{same_lit}
use Rattle.svr_chain.proofs.Same.{lit-self}
use Rattle.svr_trail.specs.declared.Entry.{Entry}
use Rattle.svr_trail.specs.Trail.{value_in, is_false, is_false_but}
use Rattle.svr_trail.proofs.Grown.{grown-none, grown-push}
use Rattle.svr_watch.specs.Store.{is_short, one_unless_empty}
use Rattle.svr_watch.proofs.Visits.{some-one}
use Rattle.svr_watch.proofs.Values.{value-put}
use Rattle.svr_watch.proofs.Levels.{short-of, short-first, first-there}
use Rattle.svr_watch.proofs.apart.look.Goals as goal

pub returns-in-Some-false-clause-fault : goal.returns-in-Some-false-clause-fault
returns-in-Some-false-clause-fault g c = λ _.
    let es = c.args.trail.now.entries in
    let xs = c.args.lits.now in
    let x : Lit = c.in-Some.lit.now in
    let e : Some x ≡ slice_get xs 0 = c.in-Some.ensures.value in
    let h : is_short xs ≡ true = short-of xs c.requires.apart (sym c.have_opposites.ensures ∙ c.if-have_opposites.false) in
    let v : value_in es x ≡ Some false = sym c.value.ensures ∙ c.in-Some-false.is ∙ ap Some c.in-Some-false.field-0-test in
    short-first (λ z. is_false (value_in es z)) xs x e h (ap is_false v)

pub returns-in-None-clause-grown : goal.returns-in-None-clause-grown
returns-in-None-clause-grown g c = λ ks n r.
    let es = c.args.trail.now.entries in
    let xs = c.args.lits.now in
    let x : Lit = c.in-Some.lit.now in
    let e : Some x ≡ slice_get xs 0 = c.in-Some.ensures.value in
    let h : is_short xs ≡ true = short-of xs c.requires.apart (sym c.have_opposites.ensures ∙ c.if-have_opposites.false) in
    let b : is_false_but es x xs ≡ true
    = short-first (λ z. same_lit z x || is_false (value_in es z)) xs x e h (or_left (same_lit x x) (is_false (value_in es x)) (lit-self x)) in
    rw c.put.ensures.put (grown-push ks es es x c.args.number (grown-none ks es r) (xs, n, first-there xs x e, b))

pub returns-in-None-clause-settled : goal.returns-in-None-clause-settled
returns-in-None-clause-settled g c = λ _.
    let es = c.args.trail.now.entries in
    let xs = c.args.lits.now in
    let x : Lit = c.in-Some.lit.now in
    let e : Some x ≡ slice_get xs 0 = c.in-Some.ensures.value in
    let en : Entry = record { lit = x; reason = Some c.args.number } in
    let v : value_in es x ≡ None = sym c.value.ensures ∙ c.in-None.is in
    rw c.put.ensures.put (inr (x, first-there xs x e, value-put es en v))

pub returns-in-Some-true-clause-steps : goal.returns-in-Some-true-clause-steps
returns-in-Some-true-clause-steps g c =
    let x : Lit = c.in-Some.lit.now in
    let e : one_unless_empty c.args.lits.now ≡ 1 = some-one c.args.lits.now x c.in-Some.ensures.value in
    omega (arith, e, c.tick.ensures)

pub returns-in-Some-false-clause-steps : goal.returns-in-Some-false-clause-steps
returns-in-Some-false-clause-steps g c =
    let x : Lit = c.in-Some.lit.now in
    let e : one_unless_empty c.args.lits.now ≡ 1 = some-one c.args.lits.now x c.in-Some.ensures.value in
    omega (arith, e, c.tick.ensures)

pub returns-in-None-clause-steps : goal.returns-in-None-clause-steps
returns-in-None-clause-steps g c =
    let x : Lit = c.in-Some.lit.now in
    let e : one_unless_empty c.args.lits.now ≡ 1 = some-one c.args.lits.now x c.in-Some.ensures.value in
    omega (arith, e, c.tick.ensures)

pub returns-then-have_opposites-clause-grown : goal.returns-then-have_opposites-clause-grown
returns-then-have_opposites-clause-grown g c = λ ks n r. grown-none ks c.args.trail.now.entries r

pub returns-then-have_opposites-clause-settled : goal.returns-then-have_opposites-clause-settled
returns-then-have_opposites-clause-settled g c = λ _. inl (sym c.have_opposites.ensures ∙ c.if-have_opposites.true)

pub returns-in-Some-true-clause-grown : goal.returns-in-Some-true-clause-grown
returns-in-Some-true-clause-grown g c = λ ks n r. grown-none ks c.args.trail.now.entries r

pub returns-in-Some-false-clause-grown : goal.returns-in-Some-false-clause-grown
returns-in-Some-false-clause-grown g c = λ ks n r. grown-none ks c.args.trail.now.entries r

pub returns-in-Some-true-clause-settled : goal.returns-in-Some-true-clause-settled
returns-in-Some-true-clause-settled g c = λ _.
    let x : Lit = c.in-Some.lit.now in
    let v : value_in c.args.trail.now.entries x ≡ Some true = sym c.value.ensures ∙ c.in-Some-true.is ∙ ap Some c.in-Some-true.field-0-test in
    inr (x, first-there c.args.lits.now x c.in-Some.ensures.value, v)
