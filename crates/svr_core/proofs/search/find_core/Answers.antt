use Rattle.std.proofs.Common.{◌≡◌, subst, sym, ◌∙◌, ◌++◌, List, false}
use Rattle.std.proofs.lemmas.Result.{IfOk-weaker}
use Rattle.svr_chain.specs.declared.clause.Lit.{Lit}
use Rattle.svr_chain.specs.Clauses.{is_tautology, AreWithin}
use Rattle.svr_query.specs.declared.solver.Answer.TheVariants.{Satisfied, Refuted, Spent}
use Rattle.svr_query.specs.Answer.{IsAnswer, IsRefutation}
use Rattle.svr_soft.specs.Later.{IsLater}
use Rattle.svr_soft.proofs.Ended.{later_none, later_then}
use Rattle.svr_core.specs.Groups.{lits_of}
use Rattle.svr_core.specs.End.{IsCoreEnd}
use Rattle.svr_core.proofs.Turns.{values_then, refuted_then, spent_then, core_then}
use Rattle.svr_core.proofs.search.find_core.Goals as goal

pub ask-requires-clause-within : goal.ask-requires-clause-within
ask-requires-clause-within c = subst (λ (ls : List Lit). AreWithin c.args.solver.now.vars ls) (sym (c.as_slice-lits.ensures.value ∙ c.in_ok-all.ensures)) c.requires.within

pub ask-requires-clause-apart : goal.ask-requires-clause-apart
ask-requires-clause-apart c = subst (λ (ls : List Lit). is_tautology ls ≡ false) (sym (c.as_slice-lits.ensures.value ∙ c.in_ok-all.ensures)) c.requires.apart

pub shrink-requires-clause-within : goal.shrink-requires-clause-within
shrink-requires-clause-within c = rw c.ask.ensures.vars c.requires.within

pub shrink-requires-clause-prefer : goal.shrink-requires-clause-prefer
shrink-requires-clause-prefer c = c.requires.prefer ∙ sym c.ask.ensures.vars

pub shrink-requires-clause-refuted : goal.shrink-requires-clause-refuted
shrink-requires-clause-refuted c =
    let all : List Lit = c.args.base.now ++ lits_of c.args.groups.now in
    let a : IsAnswer c.args.solver.now c.as_slice-lits.result.now c.args.budget (Refuted c.in-Refuted.log) = rw c.in-Refuted.is at c.in_ok-answer.ensures.answer in
    let r : IsRefutation c.args.solver.now.clauses all c.in-Refuted.log
    = refuted_then c.args.solver.now c.args.solver.now (later_none c.args.solver.now) c.as_slice-lits.result.now all c.in-Refuted.log (c.as_slice-lits.ensures.value ∙ c.in_ok-all.ensures) a in
    subst (λ (ks : List (List Lit)). IsRefutation ks all c.in-Refuted.log) (sym c.ask.ensures.clauses) r

pub returns-in_err-all-clause-later : goal.returns-in_err-all-clause-later
returns-in_err-all-clause-later c = later_none c.args.solver.now

pub returns-in_err-answer-clause-later : goal.returns-in_err-answer-clause-later
returns-in_err-answer-clause-later c = record { vars = c.ask.ensures.vars; clauses = c.ask.ensures.clauses; bits = c.ask.ensures.bits; begins = c.ask.ensures.begins }

pub returns-in-Satisfied : goal.returns-in-Satisfied
returns-in-Satisfied c =
    let s = c.args.solver.now in
    let all : List Lit = c.args.base.now ++ lits_of c.args.groups.now in
    let a : IsAnswer s c.as_slice-lits.result.now c.args.budget (Satisfied c.in-Satisfied.values) = rw c.in-Satisfied.is at c.in_ok-answer.ensures.answer in
    record {
      later = record { vars = c.ask.ensures.vars; clauses = c.ask.ensures.clauses; bits = c.ask.ensures.bits; begins = c.ask.ensures.begins };
      end = values_then s s (later_none s) c.as_slice-lits.result.now all c.args.budget c.in-Satisfied.values.items (c.as_slice-lits.ensures.value ∙ c.in_ok-all.ensures) a;
    }

pub returns-in-Refuted : goal.returns-in-Refuted
returns-in-Refuted c =
    let base = c.args.base.now in
    let groups = c.args.groups.now in
    let asking : IsLater c.args.solver.now c.ask.new.self = record { vars = c.ask.ensures.vars; clauses = c.ask.ensures.clauses; bits = c.ask.ensures.bits; begins = c.ask.ensures.begins } in
    record {
      later = later_then asking c.shrink.ensures.later;
      end = IfOk-weaker c.shrink.result (λ e. IsCoreEnd c.ask.new.self base groups c.args.budget e) _ (λ e h. core_then c.args.solver.now c.ask.new.self asking base groups c.args.budget e h) c.shrink.ensures.end;
    }

pub returns : goal.returns
returns c =
    let s = c.args.solver.now in
    let a : IsAnswer s c.as_slice-lits.result.now c.args.budget (Spent c.in-Spent.log c.in-Spent.first) = rw c.in-Spent.is at c.in_ok-answer.ensures.answer in
    record {
      later = record { vars = c.ask.ensures.vars; clauses = c.ask.ensures.clauses; bits = c.ask.ensures.bits; begins = c.ask.ensures.begins };
      end = spent_then s s (later_none s) c.as_slice-lits.result.now c.args.budget c.in-Spent.first c.in-Spent.log a;
    }
