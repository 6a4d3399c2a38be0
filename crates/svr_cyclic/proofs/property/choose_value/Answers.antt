use Rattle.std.proofs.Common.{◌≡◌, ◌<◌, ◌^◌, ℕ, List, inl, sym, ◌∙◌, subst}
use Rattle.std.specs.List.{All}
use Rattle.std.proofs.lemmas.Result.{IfOk-weaker}
use Rattle.svr_chain.specs.declared.clause.Lit.{Lit}
use Rattle.svr_frame.specs.Frame.{frame_term, width_of, domain_of}
use Rattle.svr_phase.specs.Cyclic.{turned, unused}
use Rattle.svr_phase.proofs.Fresh.{all_turned}
use Rattle.svr_cyclic.specs.declared.look.Looked.{Looked}
use Rattle.svr_cyclic.specs.declared.look.Looked.TheVariants as looked
use Rattle.svr_cyclic.specs.declared.look.Among.TheVariants as among
use Rattle.svr_cyclic.specs.Questions.{over}
use Rattle.svr_cyclic.specs.Values.{IsLooked, IsValueEnd, reason_of}
use Rattle.svr_cyclic.proofs.Lists.{width_few, domain_below, unused_all}
use Rattle.svr_cyclic.proofs.property.choose_value.Goals as goal

pub trials_of-requires : goal.trials_of-requires
trials_of-requires c = width_few (frame_term c.args.asking.now.frame.now) c.requires.can.sound c.args.sought.now.prop

pub first_fitting-requires-clause-sought : goal.first_fitting-requires-clause-sought
first_fitting-requires-clause-sought c = c.requires.sought

pub first_fitting-requires-clause-below : goal.first_fitting-requires-clause-below
first_fitting-requires-clause-below c =
    let f = frame_term c.args.asking.now.frame.now in
    let fits = λ (v : ℕ). v < 2 ^ width_of f c.args.sought.now.prop in
    subst (λ (vs : List ℕ). All (λ v. v < 2 ^ width_of (frame_term c.args.asking.now.frame.now) c.args.sought.now.prop) vs) (sym (c.as_slice-left.ensures.value ∙ c.in_ok-tries.ensures.unused))
    (all_turned fits c.args.word (unused c.args.used.now (domain_of f c.args.sought.now.prop)) (unused_all fits c.args.used.now (domain_of f c.args.sought.now.prop) (domain_below f c.requires.can.sound c.args.sought.now.prop)))

pub begin_cycle-requires-clause-sought : goal.begin_cycle-requires-clause-sought
begin_cycle-requires-clause-sought c = c.requires.sought

pub begin_cycle-requires-clause-front : goal.begin_cycle-requires-clause-front
begin_cycle-requires-clause-front c = c.in_ok-looked.ensures.front

pub begin_cycle-requires-clause-below : goal.begin_cycle-requires-clause-below
begin_cycle-requires-clause-below c =
    let f = frame_term c.args.asking.now.frame.now in
    let fits = λ (v : ℕ). v < 2 ^ width_of f c.args.sought.now.prop in
    subst (λ (vs : List ℕ). All (λ v. v < 2 ^ width_of (frame_term c.args.asking.now.frame.now) c.args.sought.now.prop) vs) (sym (c.as_slice-whole.ensures.value ∙ c.in_ok-tries.ensures.domain))
    (all_turned fits c.args.word (domain_of f c.args.sought.now.prop) (domain_below f c.requires.can.sound c.args.sought.now.prop))

pub returns-in-Found-clause-end : goal.returns-in-Found-clause-end
returns-in-Found-clause-end c =
    let f = frame_term c.args.asking.now.frame.now in
    subst (λ (vs : List ℕ). IsLooked (over c.args.asking.now c.args.asker.now.solver.clauses) c.args.sought.now.chosen.now c.args.sought.now.prop (reason_of among.Unused c.args.sought.now.prop) vs (looked.Found c.in-Found.value)) (c.as_slice-left.ensures.value ∙ c.in_ok-tries.ensures.unused)
    (subst (λ (x : Looked). IsLooked (over c.args.asking.now c.args.asker.now.solver.clauses) c.args.sought.now.chosen.now c.args.sought.now.prop (reason_of among.Unused c.args.sought.now.prop) c.as_slice-left.result.now x) c.in-Found.is c.in_ok-looked.ensures.looked)

pub returns-in-NoneFits-clause-same : goal.returns-in-NoneFits-clause-same
returns-in-NoneFits-clause-same c = c.begin_cycle.ensures.same ∙ c.in_ok-looked.ensures.same

pub returns-in-NoneFits-clause-end : goal.returns-in-NoneFits-clause-end
returns-in-NoneFits-clause-end c =
    let f = frame_term c.args.asking.now.frame.now in
    let o = over c.args.asking.now c.args.asker.now.solver.clauses in
    let left : c.as_slice-left.result.now ≡ turned c.args.word (unused c.args.used.now (domain_of (frame_term c.args.asking.now.frame.now) c.args.sought.now.prop)) = c.as_slice-left.ensures.value ∙ c.in_ok-tries.ensures.unused in
    let whole : c.as_slice-whole.result.now ≡ turned c.args.word (domain_of (frame_term c.args.asking.now.frame.now) c.args.sought.now.prop) = c.as_slice-whole.ensures.value ∙ c.in_ok-tries.ensures.domain in
    let none =
    subst (λ (x : Looked). IsLooked (over c.args.asking.now c.args.asker.now.solver.clauses) c.args.sought.now.chosen.now c.args.sought.now.prop (reason_of among.Unused c.args.sought.now.prop) c.as_slice-left.result.now x) c.in-NoneFits.is c.in_ok-looked.ensures.looked in
    let there = subst (λ (vs : List ℕ). IsLooked (over c.args.asking.now c.args.asker.now.solver.clauses) c.args.sought.now.chosen.now c.args.sought.now.prop (reason_of among.Unused c.args.sought.now.prop) vs (looked.NoneFits c.in-NoneFits.proofs)) left none in
    let now = subst (λ (ks : List (List Lit)). IsLooked (over c.args.asking.now ks) c.args.sought.now.chosen.now c.args.sought.now.prop (reason_of among.Unused c.args.sought.now.prop) (turned c.args.word (unused c.args.used.now (domain_of f c.args.sought.now.prop))) (looked.NoneFits c.in-NoneFits.proofs))
    (sym c.in_ok-looked.ensures.same) there in
    IfOk-weaker c.begin_cycle.result _ _
    (λ e h.
    subst (λ (ks : List (List Lit)). IsValueEnd (over c.args.asking.now ks) c.args.sought.now.chosen.now c.args.sought.now.prop (turned c.args.word (unused c.args.used.now (domain_of f c.args.sought.now.prop))) (turned c.args.word (domain_of f c.args.sought.now.prop)) e) c.in_ok-looked.ensures.same
    (subst (λ (vs : List ℕ). IsValueEnd (over c.args.asking.now c.first_fitting.new.asker.solver.clauses) c.args.sought.now.chosen.now c.args.sought.now.prop (turned c.args.word (unused c.args.used.now (domain_of f c.args.sought.now.prop))) vs e) whole
    (h (turned c.args.word (unused c.args.used.now (domain_of f c.args.sought.now.prop))) now.0 now.1)))
    c.begin_cycle.ensures.end

pub returns-clause-end : goal.returns-clause-end
returns-clause-end c =
    let ended =
    subst (λ (vs : List ℕ). IsLooked (over c.args.asking.now c.args.asker.now.solver.clauses) c.args.sought.now.chosen.now c.args.sought.now.prop (reason_of among.Unused c.args.sought.now.prop) vs (looked.Spent c.in-Spent.log c.in-Spent.first)) (c.as_slice-left.ensures.value ∙ c.in_ok-tries.ensures.unused)
    (subst (λ (x : Looked). IsLooked (over c.args.asking.now c.args.asker.now.solver.clauses) c.args.sought.now.chosen.now c.args.sought.now.prop (reason_of among.Unused c.args.sought.now.prop) c.as_slice-left.result.now x) c.in-Spent.is c.in_ok-looked.ensures.looked) in
    (inl ended.0, ended.1)
