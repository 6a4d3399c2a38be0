use Rattle.std.proofs.Common.{◌≡◌, ◌∷◌, ◌++◌, [], List, sym, ◌∙◌, subst}
use Rattle.std.specs.List.{All}
use Rattle.std.proofs.lemmas.List.Elements.{All-push}
use Rattle.svr_chain.specs.declared.clause.Lit.{Lit}
use Rattle.svr_query.specs.Answer.{IsRefutation}
use Rattle.svr_cyclic.specs.declared.single.Denied.{Denied}
use Rattle.svr_cyclic.specs.Questions.{front_of}
use Rattle.svr_cyclic.specs.Denials.{AreDenied, IsDenied}
use Rattle.svr_cyclic.proofs.Denials.{single_fit}
use Rattle.svr_cyclic.proofs.single.ask_single.Goals as goal

pub ask_with-requires-clause-within : goal.ask_with-requires-clause-within
ask_with-requires-clause-within c = (single_fit c.args.asking.now c.args.sought.now c.requires.sought c.args.asker.now.solver c.requires.can c.args.asker.now.front.items c.requires.front c.args.lit c.requires.own).0

pub ask_with-requires-clause-apart : goal.ask_with-requires-clause-apart
ask_with-requires-clause-apart c = (single_fit c.args.asking.now c.args.sought.now c.requires.sought c.args.asker.now.solver c.requires.can c.args.asker.now.front.items c.requires.front c.args.lit c.requires.own).1

pub returns-in-Satisfied-clause-front : goal.returns-in-Satisfied-clause-front
returns-in-Satisfied-clause-front c = c.in_ok-answer.ensures.front ∙ c.requires.front

pub returns-in-Refuted-clause-front : goal.returns-in-Refuted-clause-front
returns-in-Refuted-clause-front c = c.in_ok-answer.ensures.front ∙ c.requires.front

pub returns-in-Refuted-clause-denied : goal.returns-in-Refuted-clause-denied
returns-in-Refuted-clause-denied c =
    let a = c.args.asking.now in
    let s = c.args.sought.now in
    let ks = c.args.asker.now.solver.clauses in
    let told : IsRefutation c.args.asker.now.solver.clauses (c.args.asker.now.front.items ++ c.args.lit ∷ []) c.in-Refuted.refutation = rw c.in-Refuted.is at c.in_ok-answer.ensures.answer in
    let here = subst (λ (front : List Lit). IsRefutation ks (front ++ c.args.lit ∷ []) c.in-Refuted.refutation) c.requires.front told in
    let one : Denied = record { lit = c.args.lit; refutation = c.in-Refuted.refutation } in
    subst (λ (ds : List Denied). AreDenied a s ks ds) (sym c.in_ok-push-in-Refuted.ensures.items) (All-push (IsDenied ks (front_of a.layout.now s.chosen.now)) c.args.known.now.denied.items one c.requires.denied here)

pub returns-clause-front : goal.returns-clause-front
returns-clause-front c = c.in_ok-answer.ensures.front ∙ c.requires.front
