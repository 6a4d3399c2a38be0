use Rattle.std.proofs.Common.{◌≡◌, ◌∙◌, ◌+◌, ◌<◌, ◌≤◌, List, length, Some, ap, sym, subst, arith}
use Rattle.std.specs.List.{slice_get}
use Rattle.svr_chain.specs.declared.clause.Lit.{Lit}
use Rattle.svr_chain.specs.Clauses.{AreWithin}
use Rattle.svr_chain.specs.Log.{named}
use Rattle.svr_trail.specs.Trail.{IsGrown}
use Rattle.svr_trail.proofs.Grown.{grown-trans}
use Rattle.svr_watch.specs.declared.store.Held.TheVariants.{Apart}
use Rattle.svr_watch.specs.Store.{clauses_of, one_unless_empty}
use Rattle.svr_watch.specs.Watch.{IsSettled}
use Rattle.svr_watch.proofs.Keeping.{apart-names}
use Rattle.svr_watch.proofs.Visits.{visits-next, visits-less}
use Rattle.svr_watch.proofs.Levels.{all-get, settled-grows, settled-more}
use Rattle.svr_watch.proofs.apart.look_all.Goals as goal
use Rattle.svr_watch.proofs.apart.look_all.Goals.{in-Some+else-look, in_default}

pub look-requires-clause-within : goal.look-requires-clause-within
look-requires-clause-within g c =
    let s = c.args.store.now in
    let ks = clauses_of s in
    let es0 = c.args.trail.now.entries in
    let es = c.places.trail.entries in
    let n = c.places.seen in
    let inv = c.places.invariant in
    let k : List Lit = c.in-Some.clause.now in
    let a = apart-names s n k c.in-Some.ensures.some in
    rw (c.lits.ensures, inv.vars) (all-get (λ z. AreWithin c.args.trail.now.vars z) ks n k c.requires.within a.1)

pub returns-then-look-clause-grown : goal.returns-then-look-clause-grown
returns-then-look-clause-grown g c =
    let s = c.args.store.now in
    let ks = clauses_of s in
    let es0 = c.args.trail.now.entries in
    let es = c.places.trail.entries in
    let n = c.places.seen in
    let inv = c.places.invariant in
    let k : List Lit = c.in-Some.clause.now in
    let a = apart-names s n k c.in-Some.ensures.some in
    let fs = c.look.new.trail.entries in
    let nm : named ks (n + 1) ≡ Some c.lits.result.now = a.0 ∙ ap Some (sym c.lits.ensures) in
    let gr : IsGrown ks es fs = c.look.ensures.grown ks nm inv.grown.reasons in
    grown-trans ks es0 es fs inv.grown gr

pub returns-then-look-clause-settled : goal.returns-then-look-clause-settled
returns-then-look-clause-settled g c =
    let s = c.args.store.now in
    let ks = clauses_of s in
    let es0 = c.args.trail.now.entries in
    let es = c.places.trail.entries in
    let n = c.places.seen in
    let inv = c.places.invariant in
    let k : List Lit = c.in-Some.clause.now in
    let a = apart-names s n k c.in-Some.ensures.some in
    let fs = c.look.new.trail.entries in
    let nm : named ks (n + 1) ≡ Some c.lits.result.now = a.0 ∙ ap Some (sym c.lits.ensures) in
    let gr : IsGrown ks es fs = c.look.ensures.grown ks nm inv.grown.reasons in
    settled-grows s es fs n gr.same inv.settled

pub returns-then-look-clause-fault : goal.returns-then-look-clause-fault
returns-then-look-clause-fault g c =
    let s = c.args.store.now in
    let ks = clauses_of s in
    let es0 = c.args.trail.now.entries in
    let es = c.places.trail.entries in
    let n = c.places.seen in
    let inv = c.places.invariant in
    let k : List Lit = c.in-Some.clause.now in
    let a = apart-names s n k c.in-Some.ensures.some in
    let fs = c.look.new.trail.entries in
    let nm : named ks (n + 1) ≡ Some c.lits.result.now = a.0 ∙ ap Some (sym c.lits.ensures) in
    let gr : IsGrown ks es fs = c.look.ensures.grown ks nm inv.grown.reasons in
    (c.lits.result.now, nm, c.look.ensures.fault c.if-look.true)

pub places-preserved : goal.places-preserved
places-preserved g c =
    let s = c.args.store.now in
    let ks = clauses_of s in
    let es0 = c.args.trail.now.entries in
    let es = c.places.trail.entries in
    let n = c.places.seen in
    let inv = c.places.invariant in
    let h : n < length s.held = omega (arith, c.places-test.true, c.len.ensures) in
    elim c.match-apart.branch [
      | in-Some+else-look w ↦
          let k : List Lit = w.in-Some.clause.now in
          let a = apart-names s n k w.in-Some.ensures.some in
          let fs = w.look.new.trail.entries in
          let nm : named ks (n + 1) ≡ Some w.lits.result.now = a.0 ∙ ap Some (sym w.lits.ensures) in
          let gr : IsGrown ks es fs = w.look.ensures.grown ks nm inv.grown.reasons in
          let now : (z : List Lit) → slice_get s.held n ≡ Some (Apart z) → IsSettled fs z
          = λ z e.
          let q : k ≡ z = (let y : Some (Apart k) ≡ Some (Apart z) = sym w.in-Some.ensures.some ∙ e in cc) in
          subst (IsSettled fs) (w.lits.ensures ∙ q) (w.look.ensures.settled w.if-look.false) in
          record {
            vars = rw w.trail-is (w.look.ensures.vars ∙ inv.vars);
            grown = rw w.trail-is (grown-trans ks es0 es fs inv.grown gr);
            settled = rw w.trail-is (settled-more s fs n (settled-grows s es fs n gr.same inv.settled) now);
            high = omega (arith, h);
            steps = rw w.steps-is (let y : w.look.new.steps ≤ c.places.steps + one_unless_empty k = rw w.lits.ensures at w.look.ensures.steps in
                let x = visits-next s.held n (Apart k) w.in-Some.ensures.some in omega (arith, y, x, inv.steps));
          }
      | in_default w ↦ record {
        vars = rw w.trail-is inv.vars;
        grown = rw w.trail-is inv.grown;
        settled = rw w.trail-is (settled-more s es n inv.settled (λ z e. absurd (w.in_default.ensures.none z e)));
        high = omega (arith, h);
        steps = rw w.steps-is (let x = visits-less s.held n in omega (arith, x, inv.steps));
      }
    ]

pub returns-then-look-clause-steps : goal.returns-then-look-clause-steps
returns-then-look-clause-steps g c =
    let s = c.args.store.now in
    let n = c.places.seen in
    let inv = c.places.invariant in
    let k : List Lit = c.in-Some.clause.now in
    let y : c.look.new.steps ≤ c.places.steps + one_unless_empty k = rw c.lits.ensures at c.look.ensures.steps in
    let x = visits-next s.held n (Apart k) c.in-Some.ensures.some in
    omega (arith, y, x, inv.steps)
