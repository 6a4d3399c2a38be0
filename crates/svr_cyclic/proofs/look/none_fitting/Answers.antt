use Rattle.std.proofs.Common.{◌<◌, ◌^◌, ◌∷◌, ◌++◌, [], ℕ, List, get_or, refl, sym, ◌∙◌, subst, arith}
use Rattle.std.specs.List.{All}
use Rattle.std.proofs.lemmas.List.{take_all}
use Rattle.std.proofs.lemmas.List.Elements.{All-nil, All-get_or}
use Rattle.svr_chain.specs.declared.clause.Lit.{Lit}
use Rattle.svr_frame.specs.Frame.{frame_term, width_of}
use Rattle.svr_phase.specs.declared.proof.Proof.{Proof}
use Rattle.svr_phase.specs.declared.proof.ProofReason.{ProofReason}
use Rattle.svr_cyclic.specs.declared.ask.Tried.{Tried}
use Rattle.svr_cyclic.specs.declared.ask.Tried.TheVariants as told
use Rattle.svr_cyclic.specs.Questions.{IsTried, over}
use Rattle.svr_cyclic.specs.Values.{CannotTake, AreRefuted, reason_of}
use Rattle.svr_cyclic.specs.Denials.{AreDenied}
use Rattle.svr_cyclic.proofs.Tries.{refuted_more, none_more, found_at, trying_at}
use Rattle.svr_cyclic.proofs.look.none_fitting.Goals as goal

pub loop-value-init : goal.loop-value-init
loop-value-init c =
    let s = c.args.sought.now in
    record {
      can = c.requires.can;
      same = refl;
      front = c.requires.front;
      none = All-nil (CannotTake (frame_term c.args.asking.now.frame.now) s.chosen.now s.prop);
      proved = subst (λ (ps : List Proof). AreRefuted (over c.args.asking.now c.args.asker.now.solver.clauses) s.chosen.now s.prop (reason_of c.args.among s.prop) [] ps) (sym c.new-proofs.ensures) tt;
      denied = c.requires.denied;
    }

pub try_with-requires-clause-can : goal.try_with-requires-clause-can
try_with-requires-clause-can c = c.loop-value.invariant.can

pub try_with-requires-clause-front : goal.try_with-requires-clause-front
try_with-requires-clause-front c = c.loop-value.invariant.front

pub try_with-requires-clause-sought : goal.try_with-requires-clause-sought
try_with-requires-clause-sought c = c.requires.sought

pub try_with-requires-clause-chosen : goal.try_with-requires-clause-chosen
try_with-requires-clause-chosen c = c.in_ok-chosen.ensures

pub try_with-requires-clause-below : goal.try_with-requires-clause-below
try_with-requires-clause-below c =
    All-get_or (λ v. v < 2 ^ width_of (frame_term c.args.asking.now.frame.now) c.args.sought.now.prop) c.args.values.now c.loop-value.value-index 0 c.loop-value-test.true c.requires.below

pub try_with-requires-clause-denied : goal.try_with-requires-clause-denied
try_with-requires-clause-denied c =
    let i = c.loop-value.invariant in
    subst (λ (ks : List (List Lit)). AreDenied c.args.asking.now c.args.sought.now ks c.loop-value.known.denied.items) (sym i.same) i.denied

pub returns-in_err-tried-clause-can : goal.returns-in_err-tried-clause-can
returns-in_err-tried-clause-can c = c.try_with.ensures.can

pub returns-in_err-tried-clause-same : goal.returns-in_err-tried-clause-same
returns-in_err-tried-clause-same c = c.try_with.ensures.same ∙ c.loop-value.invariant.same

pub returns-in-Fits-clause-can : goal.returns-in-Fits-clause-can
returns-in-Fits-clause-can c = c.in_ok-tried.ensures.can

pub returns-in-Fits-clause-same : goal.returns-in-Fits-clause-same
returns-in-Fits-clause-same c = c.in_ok-tried.ensures.same ∙ c.loop-value.invariant.same

pub returns-in-Fits-clause-front : goal.returns-in-Fits-clause-front
returns-in-Fits-clause-front c = c.in_ok-tried.ensures.front

pub returns-in-Fits-clause-looked : goal.returns-in-Fits-clause-looked
returns-in-Fits-clause-looked c =
    let a = c.args.asking.now in
    let s = c.args.sought.now in
    let i = c.loop-value.value-index in
    let one = subst (λ (t : Tried). IsTried (over a c.loop-value.asker.solver.clauses) (s.chosen.now ++ (s.prop, get_or c.args.values.now i 0) ∷ []) c.reason-why.result t) c.in-Fits.is c.in_ok-tried.ensures.tried in
    found_at (over a c.args.asker.now.solver.clauses) s.chosen.now s.prop (reason_of c.args.among s.prop) c.args.values.now i c.loop-value-test.true c.loop-value.invariant.none one

pub returns-in-Spent-clause-can : goal.returns-in-Spent-clause-can
returns-in-Spent-clause-can c = c.in_ok-tried.ensures.can

pub returns-in-Spent-clause-same : goal.returns-in-Spent-clause-same
returns-in-Spent-clause-same c = c.in_ok-tried.ensures.same ∙ c.loop-value.invariant.same

pub returns-in-Spent-clause-front : goal.returns-in-Spent-clause-front
returns-in-Spent-clause-front c = c.in_ok-tried.ensures.front

pub returns-in-Spent-clause-looked : goal.returns-in-Spent-clause-looked
returns-in-Spent-clause-looked c =
    let a = c.args.asking.now in
    let s = c.args.sought.now in
    let i = c.loop-value.value-index in
    let ended = subst (λ (t : Tried). IsTried (over a c.loop-value.asker.solver.clauses) (s.chosen.now ++ (s.prop, get_or c.args.values.now i 0) ∷ []) c.reason-why.result t) c.in-Spent.is c.in_ok-tried.ensures.tried in
    let given = subst (λ (ks : List (List Lit)). IsTried (over a ks) (s.chosen.now ++ (s.prop, get_or c.args.values.now i 0) ∷ []) c.reason-why.result (told.Spent c.in-Spent.log c.in-Spent.first)) c.loop-value.invariant.same ended in
    (trying_at (over a c.args.asker.now.solver.clauses) s.chosen.now s.prop (reason_of c.args.among s.prop) c.args.values.now i c.loop-value-test.true c.loop-value.invariant.none, given)

pub loop-value-preserved : goal.loop-value-preserved
loop-value-preserved c =
    let a = c.args.asking.now in
    let s = c.args.sought.now in
    let vs = c.args.values.now in
    let i = c.loop-value.value-index in
    let inv = c.loop-value.invariant in
    let fixed : List (ℕ × ℕ) = s.chosen.now ++ (s.prop, get_or vs i 0) ∷ [] in
    let said = subst (λ (t : Tried). IsTried (over a c.loop-value.asker.solver.clauses) fixed c.reason-why.result t) c.in-Refused.is c.in_ok-tried.ensures.tried in
    let here = subst (λ (ks : List (List Lit)). IsTried (over a ks) fixed c.reason-why.result (told.Refused c.in-Refused.proof)) inv.same said in
    let refused = subst (λ (r : ProofReason). IsTried (over a c.args.asker.now.solver.clauses) fixed r (told.Refused c.in-Refused.proof)) c.reason-why.ensures here in
    record {
      can = c.in_ok-tried.ensures.can;
      same = c.in_ok-tried.ensures.same ∙ inv.same;
      front = c.in_ok-tried.ensures.front;
      none = none_more (over a c.args.asker.now.solver.clauses) s.chosen.now s.prop (reason_of c.args.among s.prop) vs i c.loop-value-test.true inv.none refused.0;
      denied = subst (λ (ks : List (List Lit)). AreDenied a s ks c.try_with.new.known.denied.items) inv.same c.in_ok-tried.ensures.denied;
      proved = refuted_more (over a c.args.asker.now.solver.clauses) s.chosen.now s.prop (reason_of c.args.among s.prop) vs i c.loop-value.proofs _ c.in-Refused.proof c.loop-value-test.true c.in_ok-push-in-Refused.ensures.ok inv.proved refused.1;
    }

pub returns-in_err-push-in-Refused-clause-can : goal.returns-in_err-push-in-Refused-clause-can
returns-in_err-push-in-Refused-clause-can c = c.in_ok-tried.ensures.can

pub returns-in_err-push-in-Refused-clause-same : goal.returns-in_err-push-in-Refused-clause-same
returns-in_err-push-in-Refused-clause-same c = c.in_ok-tried.ensures.same ∙ c.loop-value.invariant.same

pub returns-clause-can : goal.returns-clause-can
returns-clause-can c = c.loop-value.invariant.can

pub returns-clause-same : goal.returns-clause-same
returns-clause-same c = c.loop-value.invariant.same

pub returns-clause-front : goal.returns-clause-front
returns-clause-front c = c.loop-value.invariant.front

pub returns-clause-looked : goal.returns-clause-looked
returns-clause-looked c =
    let a = c.args.asking.now in
    let s = c.args.sought.now in
    let whole = take_all c.loop-value.value-index c.args.values.now (omega (arith, c.loop-value-test.false)) in (
      subst (λ (vs : List ℕ). All (CannotTake (frame_term a.frame.now) s.chosen.now s.prop) vs) whole c.loop-value.invariant.none,
      subst (λ (vs : List ℕ). AreRefuted (over a c.args.asker.now.solver.clauses) s.chosen.now s.prop (reason_of c.args.among s.prop) vs c.loop-value.proofs) whole c.loop-value.invariant.proved,
    )
