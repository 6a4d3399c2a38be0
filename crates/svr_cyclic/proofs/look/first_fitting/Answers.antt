use Rattle.std.proofs.Common.{ℕ, List, Option, sym, ◌∙◌, subst}
use Rattle.std.specs.Prelude.{IfOk, IfSome}
use Rattle.std.proofs.lemmas.List.Elements.{All-nil}
use Rattle.svr_chain.specs.declared.clause.Lit.{Lit}
use Rattle.svr_cyclic.specs.declared.look.Looked.{Looked}
use Rattle.svr_cyclic.specs.declared.single.Denied.{Denied}
use Rattle.svr_phase.specs.declared.proof.ProofReason.{ProofReason}
use Rattle.svr_cyclic.specs.Questions.{front_of, over}
use Rattle.svr_cyclic.specs.Values.{IsLooked, reason_of}
use Rattle.svr_cyclic.specs.Denials.{AreDenied, IsDenied}
use Rattle.svr_cyclic.proofs.look.first_fitting.Goals as goal

pub first_found-requires-clause-denied : goal.first_found-requires-clause-denied
first_found-requires-clause-denied c =
    subst (λ (ds : List Denied). AreDenied c.args.asking.now c.args.sought.now c.args.asker.now.solver.clauses ds) (sym c.new-known.ensures)
    (All-nil (IsDenied c.args.asker.now.solver.clauses (front_of c.args.asking.now.layout.now c.args.sought.now.chosen.now)))

pub returns-in-Some-clause-looked : goal.returns-in-Some-clause-looked
returns-in-Some-clause-looked c =
    let s = c.args.sought.now in
    (subst (λ (o : Option Looked). IfSome o (λ (x : Looked). (cause : ℕ → ProofReason) → IsLooked (over c.args.asking.now c.args.asker.now.solver.clauses) s.chosen.now s.prop cause c.args.values.now x)) c.in-Some.is c.in_ok-found.ensures.found)
    (reason_of c.args.among s.prop)

pub returns-in-Some-clause-can : goal.returns-in-Some-clause-can
returns-in-Some-clause-can c = c.in_ok-found.ensures.can

pub returns-in-Some-clause-same : goal.returns-in-Some-clause-same
returns-in-Some-clause-same c = c.in_ok-found.ensures.same

pub returns-in-Some-clause-front : goal.returns-in-Some-clause-front
returns-in-Some-clause-front c = c.in_ok-found.ensures.front

pub none_fitting-requires-clause-front : goal.none_fitting-requires-clause-front
none_fitting-requires-clause-front c = c.in_ok-found.ensures.front

pub none_fitting-requires-clause-can : goal.none_fitting-requires-clause-can
none_fitting-requires-clause-can c = c.in_ok-found.ensures.can

pub none_fitting-requires-clause-denied : goal.none_fitting-requires-clause-denied
none_fitting-requires-clause-denied c =
    subst (λ (ks : List (List Lit)). AreDenied c.args.asking.now c.args.sought.now ks c.first_found.new.known.denied.items) (sym c.in_ok-found.ensures.same) c.in_ok-found.ensures.denied

pub returns-clause-can : goal.returns-clause-can
returns-clause-can c = c.none_fitting.ensures.can

pub returns-clause-same : goal.returns-clause-same
returns-clause-same c = c.none_fitting.ensures.same ∙ c.in_ok-found.ensures.same

pub returns-clause-front : goal.returns-clause-front
returns-clause-front c = c.none_fitting.ensures.front

pub returns-clause-looked : goal.returns-clause-looked
returns-clause-looked c =
    let s = c.args.sought.now in
    subst (λ (ks : List (List Lit)). IfOk c.none_fitting.result (IsLooked (over c.args.asking.now ks) s.chosen.now s.prop (reason_of c.args.among s.prop) c.args.values.now)) c.in_ok-found.ensures.same c.none_fitting.ensures.looked
