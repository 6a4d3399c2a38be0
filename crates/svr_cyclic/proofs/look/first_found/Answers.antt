use Rattle.std.proofs.Common.{◌<◌, ◌^◌, ◌∷◌, ◌++◌, [], ℕ, List, get_or, refl, sym, ◌∙◌, subst}
use Rattle.std.proofs.lemmas.List.Elements.{All-nil, All-get_or}
use Rattle.svr_chain.specs.declared.clause.Lit.{Lit}
use Rattle.svr_frame.specs.Frame.{frame_term, width_of}
use Rattle.svr_cyclic.specs.declared.look.Among.TheVariants as among
use Rattle.svr_cyclic.specs.declared.look.Fit.{Fit}
use Rattle.svr_cyclic.specs.declared.look.Fit.TheVariants as fit
use Rattle.svr_cyclic.specs.Questions.{over}
use Rattle.svr_cyclic.specs.Values.{CannotTake, IsFit, reason_of}
use Rattle.svr_cyclic.specs.Denials.{AreDenied}
use Rattle.svr_cyclic.proofs.Tries.{none_more, found_at, trying_at}
use Rattle.svr_cyclic.proofs.look.first_found.Goals as goal

pub loop-value-init : goal.loop-value-init
loop-value-init c =
    let s = c.args.sought.now in
    record {
      can = c.requires.can;
      same = refl;
      front = c.requires.front;
      none = All-nil (CannotTake (frame_term c.args.asking.now.frame.now) s.chosen.now s.prop);
      denied = c.requires.denied;
    }

pub fit_of-requires-clause-can : goal.fit_of-requires-clause-can
fit_of-requires-clause-can c = c.loop-value.invariant.can

pub fit_of-requires-clause-front : goal.fit_of-requires-clause-front
fit_of-requires-clause-front c = c.loop-value.invariant.front

pub fit_of-requires-clause-sought : goal.fit_of-requires-clause-sought
fit_of-requires-clause-sought c = c.requires.sought

pub fit_of-requires-clause-below : goal.fit_of-requires-clause-below
fit_of-requires-clause-below c =
    All-get_or (λ v. v < 2 ^ width_of (frame_term c.args.asking.now.frame.now) c.args.sought.now.prop) c.args.values.now c.loop-value.value-index 0 c.loop-value-test.true c.requires.below

pub fit_of-requires-clause-denied : goal.fit_of-requires-clause-denied
fit_of-requires-clause-denied c =
    let i = c.loop-value.invariant in
    subst (λ (ks : List (List Lit)). AreDenied c.args.asking.now c.args.sought.now ks c.loop-value.known.denied.items) (sym i.same) i.denied

pub returns-in_err-found-clause-can : goal.returns-in_err-found-clause-can
returns-in_err-found-clause-can c = c.fit_of.ensures.can

pub returns-in_err-found-clause-same : goal.returns-in_err-found-clause-same
returns-in_err-found-clause-same c = c.fit_of.ensures.same ∙ c.loop-value.invariant.same

pub returns-in_err-found-clause-denied : goal.returns-in_err-found-clause-denied
returns-in_err-found-clause-denied c =
    subst (λ (ks : List (List Lit)). AreDenied c.args.asking.now c.args.sought.now ks c.fit_of.new.known.denied.items) c.loop-value.invariant.same c.fit_of.ensures.denied

pub returns-in-Can-clause-can : goal.returns-in-Can-clause-can
returns-in-Can-clause-can c = c.in_ok-found.ensures.can

pub returns-in-Can-clause-same : goal.returns-in-Can-clause-same
returns-in-Can-clause-same c = c.in_ok-found.ensures.same ∙ c.loop-value.invariant.same

pub returns-in-Can-clause-front : goal.returns-in-Can-clause-front
returns-in-Can-clause-front c = c.in_ok-found.ensures.front

pub returns-in-Can-clause-denied : goal.returns-in-Can-clause-denied
returns-in-Can-clause-denied c =
    subst (λ (ks : List (List Lit)). AreDenied c.args.asking.now c.args.sought.now ks c.fit_of.new.known.denied.items) c.loop-value.invariant.same c.in_ok-found.ensures.denied

pub returns-in-Can-clause-found : goal.returns-in-Can-clause-found
returns-in-Can-clause-found c =
    let a = c.args.asking.now in
    let s = c.args.sought.now in
    let i = c.loop-value.value-index in
    let one = subst (λ (t : Fit). IsFit (over a c.loop-value.asker.solver.clauses) (s.chosen.now ++ (s.prop, get_or c.args.values.now i 0) ∷ []) t) c.in-Can.is c.in_ok-found.ensures.fits in
    λ cause. found_at (over a c.args.asker.now.solver.clauses) s.chosen.now s.prop cause c.args.values.now i c.loop-value-test.true c.loop-value.invariant.none one

pub returns-in-Spent-clause-can : goal.returns-in-Spent-clause-can
returns-in-Spent-clause-can c = c.in_ok-found.ensures.can

pub returns-in-Spent-clause-same : goal.returns-in-Spent-clause-same
returns-in-Spent-clause-same c = c.in_ok-found.ensures.same ∙ c.loop-value.invariant.same

pub returns-in-Spent-clause-front : goal.returns-in-Spent-clause-front
returns-in-Spent-clause-front c = c.in_ok-found.ensures.front

pub returns-in-Spent-clause-denied : goal.returns-in-Spent-clause-denied
returns-in-Spent-clause-denied c =
    subst (λ (ks : List (List Lit)). AreDenied c.args.asking.now c.args.sought.now ks c.fit_of.new.known.denied.items) c.loop-value.invariant.same c.in_ok-found.ensures.denied

pub returns-in-Spent-clause-found : goal.returns-in-Spent-clause-found
returns-in-Spent-clause-found c =
    let a = c.args.asking.now in
    let s = c.args.sought.now in
    let i = c.loop-value.value-index in
    let fixed : List (ℕ × ℕ) = s.chosen.now ++ (s.prop, get_or c.args.values.now i 0) ∷ [] in
    let ended = subst (λ (t : Fit). IsFit (over a c.loop-value.asker.solver.clauses) fixed t) c.in-Spent.is c.in_ok-found.ensures.fits in
    let given = subst (λ (ks : List (List Lit)). IsFit (over a ks) fixed (fit.Spent c.in-Spent.log c.in-Spent.first)) c.loop-value.invariant.same ended in
    λ cause. (trying_at (over a c.args.asker.now.solver.clauses) s.chosen.now s.prop cause c.args.values.now i c.loop-value-test.true c.loop-value.invariant.none, given)

pub loop-value-preserved : goal.loop-value-preserved
loop-value-preserved c =
    let a = c.args.asking.now in
    let s = c.args.sought.now in
    let vs = c.args.values.now in
    let i = c.loop-value.value-index in
    let inv = c.loop-value.invariant in
    let fixed : List (ℕ × ℕ) = s.chosen.now ++ (s.prop, get_or vs i 0) ∷ [] in
    let refused = subst (λ (t : Fit). IsFit (over a c.loop-value.asker.solver.clauses) fixed t) c.in-Cannot.is c.in_ok-found.ensures.fits in
    record {
      can = c.in_ok-found.ensures.can;
      same = c.in_ok-found.ensures.same ∙ inv.same;
      front = c.in_ok-found.ensures.front;
      none = none_more (over a c.args.asker.now.solver.clauses) s.chosen.now s.prop (reason_of among.Unused s.prop) vs i c.loop-value-test.true inv.none refused;
      denied = subst (λ (ks : List (List Lit)). AreDenied a s ks c.fit_of.new.known.denied.items) inv.same c.in_ok-found.ensures.denied;
    }

pub returns-clause-can : goal.returns-clause-can
returns-clause-can c = c.loop-value.invariant.can

pub returns-clause-same : goal.returns-clause-same
returns-clause-same c = c.loop-value.invariant.same

pub returns-clause-front : goal.returns-clause-front
returns-clause-front c = c.loop-value.invariant.front

pub returns-clause-denied : goal.returns-clause-denied
returns-clause-denied c = c.loop-value.invariant.denied
