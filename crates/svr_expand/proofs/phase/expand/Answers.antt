use Rattle.std.proofs.Common.{◌≡◌, ◌++◌, ◌∙◌, ap, map}
use Rattle.std.proofs.lemmas.List.{map-append}
use Rattle.svr_typed.specs.ExprTerm.{expr_term}
use Rattle.svr_frame.specs.Frame.{frame_term, state_at}
use Rattle.svr_frame.specs.Phases.{asked_of, hard_of, live_of}
use Rattle.svr_frame_laws.proofs.Expressions.{hard_truths, live_truths}
use Rattle.svr_expand.proofs.Active.{truths}
use Rattle.svr_expand.proofs.OwnItems.{hard_are}
use Rattle.svr_expand.proofs.phase.expand.Goals as goal

pub returns-clause-hard : goal.returns-clause-hard
returns-clause-hard c =
    let f = frame_term c.args.frame.now in
    let ns = c.args.sizes.now in
    let own = c.in_ok-own.own in
    let active = c.in_ok-own.active.hard in
    let both_are : c.in_ok-soft.hard ≡ own ++ active = rw c.in_ok-soft.ensures.made at c.appended.ensures in
    let all = ap (map expr_term) both_are ∙ map-append expr_term own active in
    hard_are f (state_at f ns) c.args.part ns (asked_of f c.args.part ns) (map expr_term own) (map expr_term active) (map expr_term c.in_ok-soft.hard)
    (rw c.in_ok-own.ensures.first at c.own_items-own.ensures) (rw c.in_ok-own.ensures.second at c.active_items-active.ensures.hard) all

pub returns-clause-soft : goal.returns-clause-soft
returns-clause-soft c = ap (map expr_term) c.in_ok-soft.ensures.held ∙ (rw c.in_ok-own.ensures.second at c.active_items-active.ensures.soft)

pub returns-clause-hard_truth : goal.returns-clause-hard_truth
returns-clause-hard_truth c =
    let f = frame_term c.args.frame.now in
    let ns = c.args.sizes.now in
    λ fixed a is. truths a (state_at f ns) (hard_of f c.args.part ns) (map expr_term c.in_ok-soft.hard) (returns-clause-hard c) (hard_truths f ns c.requires.sound c.requires.fit c.args.part fixed a is)

pub returns-clause-soft_truth : goal.returns-clause-soft_truth
returns-clause-soft_truth c =
    let f = frame_term c.args.frame.now in
    let ns = c.args.sizes.now in
    λ fixed a is. truths a (state_at f ns) (live_of f c.args.part ns) (map expr_term c.in_ok-soft.soft) (returns-clause-soft c) (live_truths f ns c.requires.sound c.requires.fit c.args.part fixed a is)
