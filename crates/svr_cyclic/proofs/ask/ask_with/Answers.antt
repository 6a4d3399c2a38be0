use Rattle.std.proofs.Common.{◌≡◌, ◌++◌, false, List, length, take, sym, ap, ◌∙◌, subst}
use Rattle.std.proofs.lemmas.List.{take_at}
use Rattle.svr_chain.specs.declared.clause.Lit.{Lit}
use Rattle.svr_chain.specs.Clauses.{AreWithin, is_tautology}
use Rattle.svr_query.specs.Answer.{IsAnswer}
use Rattle.svr_cyclic.proofs.Answered.{can_still}
use Rattle.svr_cyclic.proofs.ask.ask_with.Goals as goal

pub ask-requires-clause-within : goal.ask-requires-clause-within
ask-requires-clause-within c = subst (λ (ls : List Lit). AreWithin c.args.asker.now.solver.vars ls) (sym (c.as_slice-lits.ensures.value ∙ c.in_ok-extend_from_slice.ensures.items)) c.requires.within

pub ask-requires-clause-apart : goal.ask-requires-clause-apart
ask-requires-clause-apart c = subst (λ (ls : List Lit). is_tautology ls ≡ false) (sym (c.as_slice-lits.ensures.value ∙ c.in_ok-extend_from_slice.ensures.items)) c.requires.apart

pub ask-requires-clause-prefer : goal.ask-requires-clause-prefer
ask-requires-clause-prefer c = c.requires.can.wishes

pub returns-clause-can : goal.returns-clause-can
returns-clause-can c = can_still c.args.asking.now c.args.asker.now.solver c.ask.new.self c.ask.ensures.vars c.ask.ensures.clauses c.ask.ensures.bits c.requires.can

pub returns-clause-front : goal.returns-clause-front
returns-clause-front c =
    let front : List Lit = c.args.asker.now.front.items in
    let n : length front ≡ c.len-stands.result = sym (c.len-stands.ensures ∙ c.args.asker.now.front.ok.0) in
    c.truncate.ensures.items ∙ ap (λ (ls : List Lit). take c.len-stands.result ls) c.in_ok-extend_from_slice.ensures.items ∙ take_at front c.args.own.now c.len-stands.result n

pub returns-clause-answer : goal.returns-clause-answer
returns-clause-answer c =
    subst (λ (ls : List Lit). IsAnswer c.args.asker.now.solver ls c.args.budget c.in_ok-answer.answer) (c.as_slice-lits.ensures.value ∙ c.in_ok-extend_from_slice.ensures.items) c.in_ok-answer.ensures.answer

pub returns-in_err-answer-clause-can : goal.returns-in_err-answer-clause-can
returns-in_err-answer-clause-can c = can_still c.args.asking.now c.args.asker.now.solver c.ask.new.self c.ask.ensures.vars c.ask.ensures.clauses c.ask.ensures.bits c.requires.can
