use Rattle.std.proofs.Common.{◌≡◌, ◌∙◌, ◌||◌, true, Some, None, ap, sym}
use Rattle.std.specs.List.{slice_get, list_all}
use Rattle.std.proofs.lemmas.Bool.{or_left}
use Rattle.svr_chain.specs.declared.clause.Lit.{Lit}
use Rattle.svr_chain.specs.Clauses.{same_lit}
use Rattle.svr_chain.proofs.Same.{lit-self, all-has}
use Rattle.svr_chain.proofs.Sound.{same_lit-true}
use Rattle.svr_trail.specs.Trail.{value_in, is_false, is_false_but}
use Rattle.svr_trail.proofs.Quiet.{quiet-tautology}
use Rattle.svr_watch.specs.Store.{is_short}
use Rattle.svr_watch.proofs.Levels.{short-of, short-first, first-there}
use Rattle.svr_watch.proofs.joining.forced_apart.Goals as goal

pub returns-then-have_opposites-clause-none : goal.returns-then-have_opposites-clause-none
returns-then-have_opposites-clause-none c = λ p u.
    let es = c.args.trail.now.entries in
    let v : value_in es p ≡ Some true = quiet-tautology es c.args.lits.now (sym c.have_opposites.ensures ∙ c.if-have_opposites.true) p u.2 in
    let w : None ≡ Some true = sym u.0 ∙ v in
    cc

pub returns-in-Some-clause-none : goal.returns-in-Some-clause-none
returns-in-Some-clause-none c = λ p u.
    let es = c.args.trail.now.entries in
    let xs = c.args.lits.now in
    let x : Lit = c.in_ok-first.field-0.now in
    let e : Some x ≡ slice_get xs 0 = c.in_ok-first.ensures.value in
    let h : is_short xs ≡ true = short-of xs c.requires (sym c.have_opposites.ensures ∙ c.if-have_opposites.false) in
    let a : list_all (λ z. same_lit z x) xs ≡ true = short-first (λ z. same_lit z x) xs x e h (lit-self x) in
    let q : p ≡ x = same_lit-true p x (all-has (λ z. same_lit z x) xs p a u.1) in
    let v : Some c.in-Some.field-0 ≡ None = sym c.in-Some.is ∙ (c.value.ensures ∙ (ap (value_in es) (sym q) ∙ u.0)) in
    cc

pub returns-in-None-clause-some : goal.returns-in-None-clause-some
returns-in-None-clause-some c =
    let es = c.args.trail.now.entries in
    let xs = c.args.lits.now in
    let x : Lit = c.in_ok-first.field-0.now in
    let e : Some x ≡ slice_get xs 0 = c.in_ok-first.ensures.value in
    let h : is_short xs ≡ true = short-of xs c.requires (sym c.have_opposites.ensures ∙ c.if-have_opposites.false) in
    let b : is_false_but es x xs ≡ true
    = short-first (λ z. same_lit z x || is_false (value_in es z)) xs x e h (or_left (same_lit x x) (is_false (value_in es x)) (lit-self x)) in
    (sym c.value.ensures ∙ c.in-None.is, first-there xs x e, b)
