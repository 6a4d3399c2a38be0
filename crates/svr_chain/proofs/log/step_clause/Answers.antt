use Rattle.std.proofs.Common.{◌≡◌, ◌∙◌, List, Ok, Err, Some, refl, ap, subst}
use Rattle.svr_chain.specs.declared.clause.Lit.{Lit}
use Rattle.svr_chain.specs.Log.{named, after_links}
use Rattle.svr_chain.specs.Same.{SameLits, SameResult}
use Rattle.svr_chain.specs.Views.{StepView}
use Rattle.svr_chain.proofs.Chains.{step-none, step-judged, step-made, held-ok, held-err}
use Rattle.svr_chain.proofs.log.step_clause.Goals as goal

pub returns-in_default : goal.returns-in_default
returns-in_default c = step-none c.args.known.now c.args.step.now (c.in_default.ensures ∙ ap (λ (z : StepView). named c.args.known.now z.start) c.step.view_is)

pub returns-in-Ok : goal.returns-in-Ok
returns-in-Ok c =
    let ks = c.args.known.now in
    let s : StepView = c.args.step.now in
    let d : List Lit = c.in-Some.start.now in
    let m = c.begin.new.self in
    let new = c.follow.new.marks in
    let is : Some d ≡ named ks s.start = c.in-Some.ensures ∙ ap (λ (z : StepView). named ks z.start) c.step.view_is in
    let begun : SameLits m d = subst (λ z. SameLits m z) c.lits.ensures c.in_ok-begin.ensures in
    let t : SameResult (Ok new) (after_links ks (Ok m) s.links) =
    subst (λ z. SameResult (Ok new) (after_links ks (Ok m) z)) (c.as_slice.ensures.value ∙ ap (λ (z : StepView). z.links) c.step.view_is)
    (held-ok c.in_ok-followed.followed _ new _ c.in-Ok.is c.in_ok-followed.ensures) in
    step-made ks s d m is begun c.judge.result new t c.judge.ensures

pub returns-in-Err : goal.returns-in-Err
returns-in-Err c =
    let ks = c.args.known.now in
    let s : StepView = c.args.step.now in
    let d : List Lit = c.in-Some.start.now in
    let m = c.begin.new.self in
    let e = c.in-Err.reason in
    let is : Some d ≡ named ks s.start = c.in-Some.ensures ∙ ap (λ (z : StepView). named ks z.start) c.step.view_is in
    let begun : SameLits m d = subst (λ z. SameLits m z) c.lits.ensures c.in_ok-begin.ensures in
    let t : SameResult (Err e) (after_links ks (Ok m) s.links) =
    subst (λ z. SameResult (Err e) (after_links ks (Ok m) z)) (c.as_slice.ensures.value ∙ ap (λ (z : StepView). z.links) c.step.view_is)
    (held-err c.in_ok-followed.followed e c.follow.new.marks _ c.in-Err.is c.in_ok-followed.ensures) in
    step-judged ks s d m is begun (Err e) (Err e) t refl
