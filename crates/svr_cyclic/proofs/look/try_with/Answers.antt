use Rattle.std.proofs.Common.{◌≡◌, ◌∷◌, ◌++◌, [], List, refl, sym, ◌∙◌, subst}
use Rattle.std.specs.List.{All}
use Rattle.std.proofs.lemmas.Result.{IfOk-weaker}
use Rattle.svr_chain.specs.declared.clause.Lit.{Lit}
use Rattle.svr_query.specs.declared.solver.Answer.{Answer}
use Rattle.svr_query.specs.Answer.{IsRefutation}
use Rattle.svr_phase.specs.Proof.{fixed_lits}
use Rattle.svr_cyclic.specs.declared.single.Denied.{Denied}
use Rattle.svr_cyclic.specs.Questions.{front_of, IsTried, over, tried_of}
use Rattle.svr_cyclic.specs.Denials.{IsDenied}
use Rattle.svr_cyclic.proofs.Denials.{value_fit, value_tried, value_refused}
use Rattle.svr_cyclic.proofs.look.try_with.Goals as goal

pub returns-in-Some-clause-tried : goal.returns-in-Some-clause-tried
returns-in-Some-clause-tried c =
    let a = c.args.asking.now in
    let s = c.args.sought.now in
    let k = c.args.asker.now.solver in
    let v = c.args.value in
    let front : List Lit = front_of a.layout.now s.chosen.now in
    let own : List Lit = c.as_slice-lits.result.now in
    let is : own ≡ fixed_lits a.layout.now ((s.prop, v) ∷ []) = c.as_slice-lits.ensures.value ∙ c.in_ok-own.ensures ∙ sym (c.requires.sought.row v) in
    let denied = subst (λ (ds : List Denied). All (IsDenied k.clauses front) ds) (sym c.as_slice.ensures.value) c.requires.denied in
    let refutes = c.in-Some.ensures k.clauses front denied in
    IfOk-weaker c.refused_by_copy.result _ _ (λ t e. value_refused a s c.requires.sought k c.requires.can v c.requires.below front own refl is c.args.reason c.in-Some.refutation.now refutes t e) c.refused_by_copy.ensures

pub returns-in-Some-clause-front : goal.returns-in-Some-clause-front
returns-in-Some-clause-front c = IfOk-weaker c.refused_by_copy.result _ _ (λ t e. c.requires.front) c.refused_by_copy.ensures

pub ask_with-requires-clause-within : goal.ask_with-requires-clause-within
ask_with-requires-clause-within c =
    (value_fit c.args.asking.now c.args.sought.now c.requires.sought c.args.asker.now.solver c.requires.can c.args.asker.now.front.items c.as_slice-lits.result.now c.requires.front
    (c.args.value, c.requires.below, c.as_slice-lits.ensures.value ∙ c.in_ok-own.ensures ∙ sym (c.requires.sought.row c.args.value))).0

pub ask_with-requires-clause-apart : goal.ask_with-requires-clause-apart
ask_with-requires-clause-apart c =
    (value_fit c.args.asking.now c.args.sought.now c.requires.sought c.args.asker.now.solver c.requires.can c.args.asker.now.front.items c.as_slice-lits.result.now c.requires.front
    (c.args.value, c.requires.below, c.as_slice-lits.ensures.value ∙ c.in_ok-own.ensures ∙ sym (c.requires.sought.row c.args.value))).1

pub ask_with-requires-clause-budget : goal.ask_with-requires-clause-budget
ask_with-requires-clause-budget c = c.requires.can.some

pub returns-in-Satisfied-clause-front : goal.returns-in-Satisfied-clause-front
returns-in-Satisfied-clause-front c = c.in_ok-answer.ensures.front ∙ c.requires.front

pub returns-in-Satisfied-clause-tried : goal.returns-in-Satisfied-clause-tried
returns-in-Satisfied-clause-tried c =
    let a = c.args.asking.now in
    let s = c.args.sought.now in
    let k = c.args.asker.now.solver in
    let v = c.args.value in
    let own : List Lit = c.as_slice-lits.result.now in
    let is : own ≡ fixed_lits a.layout.now ((s.prop, v) ∷ []) = c.as_slice-lits.ensures.value ∙ c.in_ok-own.ensures ∙ sym (c.requires.sought.row v) in
    subst (λ (x : Answer). IsTried (over a k.clauses) (s.chosen.now ++ (s.prop, v) ∷ []) c.args.reason (tried_of x (fixed_lits a.layout.now (s.chosen.now ++ (s.prop, v) ∷ []) ++ a.layout.now.roots.items) c.args.reason)) c.in-Satisfied.is
    (value_tried a s c.requires.sought k c.requires.can v c.requires.below c.args.asker.now.front.items own c.requires.front is c.args.reason c.in_ok-answer.answer c.in_ok-answer.ensures.answer)

pub returns-in-Spent-clause-front : goal.returns-in-Spent-clause-front
returns-in-Spent-clause-front c = c.in_ok-answer.ensures.front ∙ c.requires.front

pub returns-in-Spent-clause-tried : goal.returns-in-Spent-clause-tried
returns-in-Spent-clause-tried c =
    let a = c.args.asking.now in
    let s = c.args.sought.now in
    let k = c.args.asker.now.solver in
    let v = c.args.value in
    let own : List Lit = c.as_slice-lits.result.now in
    let is : own ≡ fixed_lits a.layout.now ((s.prop, v) ∷ []) = c.as_slice-lits.ensures.value ∙ c.in_ok-own.ensures ∙ sym (c.requires.sought.row v) in
    subst (λ (x : Answer). IsTried (over a k.clauses) (s.chosen.now ++ (s.prop, v) ∷ []) c.args.reason (tried_of x (fixed_lits a.layout.now (s.chosen.now ++ (s.prop, v) ∷ []) ++ a.layout.now.roots.items) c.args.reason)) c.in-Spent.is
    (value_tried a s c.requires.sought k c.requires.can v c.requires.below c.args.asker.now.front.items own c.requires.front is c.args.reason c.in_ok-answer.answer c.in_ok-answer.ensures.answer)

pub ask_each-requires-clause-front : goal.ask_each-requires-clause-front
ask_each-requires-clause-front c = c.in_ok-answer.ensures.front ∙ c.requires.front

pub ask_each-requires-clause-own : goal.ask_each-requires-clause-own
ask_each-requires-clause-own c = (c.args.value, c.requires.below, c.as_slice-lits.ensures.value ∙ c.in_ok-own.ensures ∙ sym (c.requires.sought.row c.args.value))

pub returns-clause-front : goal.returns-clause-front
returns-clause-front c = IfOk-weaker c.refused.result _ _ (λ t e. c.in_ok-ask_each-in-Refuted.ensures.front) c.refused.ensures

pub returns-clause-tried : goal.returns-clause-tried
returns-clause-tried c =
    let a = c.args.asking.now in
    let s = c.args.sought.now in
    let k = c.args.asker.now.solver in
    let v = c.args.value in
    let own : List Lit = c.as_slice-lits.result.now in
    let is : own ≡ fixed_lits a.layout.now ((s.prop, v) ∷ []) = c.as_slice-lits.ensures.value ∙ c.in_ok-own.ensures ∙ sym (c.requires.sought.row v) in
    let refutes : IsRefutation c.args.asker.now.solver.clauses (c.args.asker.now.front.items ++ c.as_slice-lits.result.now) c.in-Refuted.refutation = rw c.in-Refuted.is at c.in_ok-answer.ensures.answer in
    IfOk-weaker c.refused.result _ _ (λ t e. value_refused a s c.requires.sought k c.requires.can v c.requires.below c.args.asker.now.front.items own c.requires.front is c.args.reason c.in-Refuted.refutation refutes t e) c.refused.ensures
