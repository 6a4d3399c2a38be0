use Rattle.std.proofs.Common.{◌≡◌, ◌∷◌, ◌++◌, [], List, refl, sym, ◌∙◌, subst}
use Rattle.std.specs.List.{All}
use Rattle.svr_chain.specs.declared.clause.Lit.{Lit}
use Rattle.svr_query.specs.declared.solver.Answer.{Answer}
use Rattle.svr_query.specs.declared.solver.Answer.TheVariants as answer
use Rattle.svr_phase.specs.Proof.{fixed_lits}
use Rattle.svr_cyclic.specs.declared.look.Among.TheVariants as among
use Rattle.svr_cyclic.specs.declared.single.Denied.{Denied}
use Rattle.svr_cyclic.specs.Questions.{front_of, IsTried, over, tried_of}
use Rattle.svr_cyclic.specs.Denials.{IsDenied}
use Rattle.svr_cyclic.specs.Values.{reason_of}
use Rattle.svr_cyclic.proofs.Denials.{value_fit, value_tried}
use Rattle.svr_cyclic.proofs.look.fit_of.Goals as goal

pub returns-then-is_denied-clause-fits : goal.returns-then-is_denied-clause-fits
returns-then-is_denied-clause-fits c =
    let a = c.args.asking.now in
    let s = c.args.sought.now in
    let k = c.args.asker.now.solver in
    let v = c.args.value in
    let front : List Lit = front_of a.layout.now s.chosen.now in
    let own : List Lit = c.as_slice-lits.result.now in
    let is : own ≡ fixed_lits a.layout.now ((s.prop, v) ∷ []) = c.as_slice-lits.ensures.value ∙ c.in_ok-own.ensures ∙ sym (c.requires.sought.row v) in
    let denied = subst (λ (ds : List Denied). All (IsDenied k.clauses front) ds) (sym c.as_slice.ensures.value) c.requires.denied in
    let r = c.is_denied.ensures k.clauses front denied c.if-is_denied.true in
    (value_tried a s c.requires.sought k c.requires.can v c.requires.below front own refl is (reason_of among.Unused s.prop v) (answer.Refuted r.0) r.1).0

pub ask_with-requires-clause-within : goal.ask_with-requires-clause-within
ask_with-requires-clause-within c =
    (value_fit c.args.asking.now c.args.sought.now c.requires.sought c.args.asker.now.solver c.requires.can c.args.asker.now.front.items c.as_slice-lits.result.now c.requires.front
    (c.args.value, c.requires.below, c.as_slice-lits.ensures.value ∙ c.in_ok-own.ensures ∙ sym (c.requires.sought.row c.args.value))).0

pub ask_with-requires-clause-apart : goal.ask_with-requires-clause-apart
ask_with-requires-clause-apart c =
    (value_fit c.args.asking.now c.args.sought.now c.requires.sought c.args.asker.now.solver c.requires.can c.args.asker.now.front.items c.as_slice-lits.result.now c.requires.front
    (c.args.value, c.requires.below, c.as_slice-lits.ensures.value ∙ c.in_ok-own.ensures ∙ sym (c.requires.sought.row c.args.value))).1

pub ask_with-requires-clause-budget : goal.ask_with-requires-clause-budget
ask_with-requires-clause-budget c = c.requires.can.some

pub returns-in-Satisfied-clause-front : goal.returns-in-Satisfied-clause-front
returns-in-Satisfied-clause-front c = c.in_ok-answer.ensures.front ∙ c.requires.front

pub returns-in-Satisfied-clause-fits : goal.returns-in-Satisfied-clause-fits
returns-in-Satisfied-clause-fits c =
    let a = c.args.asking.now in
    let s = c.args.sought.now in
    let k = c.args.asker.now.solver in
    let v = c.args.value in
    let own : List Lit = c.as_slice-lits.result.now in
    let is : own ≡ fixed_lits a.layout.now ((s.prop, v) ∷ []) = c.as_slice-lits.ensures.value ∙ c.in_ok-own.ensures ∙ sym (c.requires.sought.row v) in
    let why = reason_of among.Unused s.prop v in
    subst (λ (x : Answer). IsTried (over a k.clauses) (s.chosen.now ++ (s.prop, v) ∷ []) why (tried_of x (fixed_lits a.layout.now (s.chosen.now ++ (s.prop, v) ∷ []) ++ a.layout.now.roots.items) why)) c.in-Satisfied.is
    (value_tried a s c.requires.sought k c.requires.can v c.requires.below c.args.asker.now.front.items own c.requires.front is why c.in_ok-answer.answer c.in_ok-answer.ensures.answer)

pub returns-in-Spent-clause-front : goal.returns-in-Spent-clause-front
returns-in-Spent-clause-front c = c.in_ok-answer.ensures.front ∙ c.requires.front

pub returns-in-Spent-clause-fits : goal.returns-in-Spent-clause-fits
returns-in-Spent-clause-fits c =
    let a = c.args.asking.now in
    let s = c.args.sought.now in
    let k = c.args.asker.now.solver in
    let v = c.args.value in
    let own : List Lit = c.as_slice-lits.result.now in
    let is : own ≡ fixed_lits a.layout.now ((s.prop, v) ∷ []) = c.as_slice-lits.ensures.value ∙ c.in_ok-own.ensures ∙ sym (c.requires.sought.row v) in
    let why = reason_of among.Unused s.prop v in
    subst (λ (x : Answer). IsTried (over a k.clauses) (s.chosen.now ++ (s.prop, v) ∷ []) why (tried_of x (fixed_lits a.layout.now (s.chosen.now ++ (s.prop, v) ∷ []) ++ a.layout.now.roots.items) why)) c.in-Spent.is
    (value_tried a s c.requires.sought k c.requires.can v c.requires.below c.args.asker.now.front.items own c.requires.front is why c.in_ok-answer.answer c.in_ok-answer.ensures.answer)

pub ask_each-requires-clause-front : goal.ask_each-requires-clause-front
ask_each-requires-clause-front c = c.in_ok-answer.ensures.front ∙ c.requires.front

pub ask_each-requires-clause-own : goal.ask_each-requires-clause-own
ask_each-requires-clause-own c = (c.args.value, c.requires.below, c.as_slice-lits.ensures.value ∙ c.in_ok-own.ensures ∙ sym (c.requires.sought.row c.args.value))

pub returns-clause-fits : goal.returns-clause-fits
returns-clause-fits c =
    let a = c.args.asking.now in
    let s = c.args.sought.now in
    let k = c.args.asker.now.solver in
    let v = c.args.value in
    let own : List Lit = c.as_slice-lits.result.now in
    let is : own ≡ fixed_lits a.layout.now ((s.prop, v) ∷ []) = c.as_slice-lits.ensures.value ∙ c.in_ok-own.ensures ∙ sym (c.requires.sought.row v) in
    let why = reason_of among.Unused s.prop v in
    (subst (λ (x : Answer). IsTried (over a k.clauses) (s.chosen.now ++ (s.prop, v) ∷ []) why (tried_of x (fixed_lits a.layout.now (s.chosen.now ++ (s.prop, v) ∷ []) ++ a.layout.now.roots.items) why)) c.in-Refuted.is
    (value_tried a s c.requires.sought k c.requires.can v c.requires.below c.args.asker.now.front.items own c.requires.front is why c.in_ok-answer.answer c.in_ok-answer.ensures.answer)).0
