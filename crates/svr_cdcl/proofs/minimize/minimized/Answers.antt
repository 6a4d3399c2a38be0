use Rattle.std.proofs.Common.{◌≡◌, ◌∙◌, ◌||◌, sym, ap, arith, take, ◌<◌, ◌≤◌, ◌++◌, ◌∷◌, [], List, Some, true, false, refl}
use Rattle.std.proofs.lemmas.Bool.{and_from, or_left}
use Rattle.std.proofs.lemmas.List.Folds.{list_any-append}
use Rattle.svr_chain.specs.declared.clause.Lit.{Lit}
use Rattle.svr_chain.specs.Clauses.{has, same_lit}
use Rattle.svr_chain.proofs.Same.{lit-self}
use Rattle.svr_trail.specs.Trail.{is_false, value_in}
use Rattle.svr_watch.specs.Store.{clauses_of}
use Rattle.svr_watch.proofs.Values.{false-later}
use Rattle.svr_cdcl.specs.Marks.{Marks, is_marked}
use Rattle.svr_cdcl.specs.Walk.{Walk}
use Rattle.svr_cdcl.proofs.Needless.{below-push, marks-same}
use Rattle.svr_cdcl.proofs.Step.{step-decides, step-false, step-forced, step-resolves, step-skips}
use Rattle.svr_cdcl.proofs.Passed.{walk-jumps, walk-stops}
use Rattle.svr_cdcl.proofs.minimize.minimized.Goals as goal

pub walk-init : goal.walk-init
walk-init c =
    let p = c.args.pivot in
    let e : c.push.new.self.items ≡ p ∷ [] = c.in_ok-push.ensures.items ∙ ap (λ (z : List Lit). z ++ p ∷ []) c.new-lits.ensures.items in
    record {
      walk = rw e c.requires.walk;
      short = omega arith;
      pivot = rw e (or_left (same_lit p p) false (lit-self p));
      below = rw e (and_from _ true (or_left (same_lit p p) _ (lit-self p)) refl);
    }

pub entry-entry-requires : goal.entry-entry-requires
entry-entry-requires c =
    omega (arith, c.walk.invariant.walk.within, c.has_more.ensures.more c.walk-test.true)

pub next_place-left-requires : goal.next_place-left-requires
next_place-left-requires c = omega (arith, c.walk.invariant.walk.within)

pub walk-preserved-then-not-is_marked : goal.walk-preserved-then-not-is_marked
walk-preserved-then-not-is_marked c =
    let i = c.walk.invariant in
    let m : is_marked c.args.marks.now.entries c.flipped-lit.result.var ≡ false = sym c.is_marked.ensures ∙ c.if-not-is_marked.true in
    let n = c.next_place-left in
    record {
      walk = walk-jumps n.result (step-skips i.walk (c.has_more.ensures.more c.walk-test.true) c.len.ensures.apart c.entry-entry.ensures c.flipped-lit.ensures m) n.ensures.within n.ensures.between;
      short = omega (arith, i.short, n.ensures.within);
      pivot = i.pivot;
      below = i.below;
    }

pub needless-requires : goal.needless-requires
needless-requires c =
    λ n q.
    let f = step-forced c.walk.invariant.walk (c.has_more.ensures.more c.walk-test.true) c.len.ensures.apart c.entry-entry.ensures c.flipped-lit.ensures c.requires.reasons n q in
    rw f.1 refl

pub walk-preserved-in_default : goal.walk-preserved-in_default
walk-preserved-in_default c =
    let es = c.args.trail.now.entries in
    let ms = c.args.marks.now.entries in
    let place = c.args.place in
    let i = c.walk.invariant in
    let some : 0 < c.walk.left = c.has_more.ensures.more c.walk-test.true in
    let a = c.len.ensures.apart in
    let out = c.walk.lits.items in
    let x : Lit = c.flipped-lit.result in
    let m : is_marked ms x.var ≡ true = sym c.is_marked.ensures ∙ c.if-not-is_marked.false in
    let f : is_false (value_in (take place es) x) ≡ true = false-later es c.walk.left place x i.short (step-false i.walk some a c.entry-entry.ensures c.flipped-lit.ensures) in
    let p : c.push-in_default.new.self.items ≡ out ++ x ∷ [] = c.in_ok-push-2.ensures.items in
    record {
      walk = rw p (step-decides i.walk some a c.entry-entry.ensures c.flipped-lit.ensures m);
      short = omega (arith, i.short);
      pivot = rw p (list_any-append (λ z. same_lit z c.args.pivot) out (x ∷ []) ∙ or_left (has out c.args.pivot) _ i.pivot);
      below = rw p (below-push es place c.args.pivot ms out x i.below f m);
    }

pub walk-preserved : goal.walk-preserved
walk-preserved c =
    let ms = c.args.marks.now.entries in
    let i = c.walk.invariant in
    let some : 0 < c.walk.left = c.has_more.ensures.more c.walk-test.true in
    let a = c.len.ensures.apart in
    let n = c.in-Some.clause in
    let m : is_marked ms c.flipped-lit.result.var ≡ true = sym c.is_marked.ensures ∙ c.if-not-is_marked.false in
    let f = step-forced i.walk some a c.entry-entry.ensures c.flipped-lit.ensures c.requires.reasons n c.in-Some.ensures.reason in
    let u : Marks ms ms (Some c.entry-entry.result.lit) f.0 = marks-same ms c.entry-entry.result.lit f.0 (c.in-Some.ensures.marked f.0 f.1) in
    record {
      walk = rw c.in_ok-push-3.ensures.items (step-resolves i.walk some a c.entry-entry.ensures c.flipped-lit.ensures n ms m f i.walk.marks u);
      short = omega (arith, i.short);
      pivot = i.pivot;
      below = i.below;
    }

pub returns-clause-derives : goal.returns-clause-derives
returns-clause-derives c =
    rw c.new.ensures (walk-stops (clauses_of c.args.store.now) c.args.trail.now.entries c.args.number c.args.marks.now.entries c.walk.lits.items c.walk.links.items c.walk.left c.walk.invariant.walk (c.has_more.ensures.done c.walk-test.false))
