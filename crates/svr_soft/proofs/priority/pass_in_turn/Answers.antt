use Rattle.std.proofs.Common.{List, sym, ◌∙◌, ◌++◌, subst, arith}
use Rattle.std.proofs.lemmas.Result.{IfOk-weaker}
use Rattle.svr_chain.specs.declared.clause.Lit.{Lit}
use Rattle.svr_chain.proofs.Sound.{no_valuation-from_accepted}
use Rattle.svr_query.specs.declared.solver.Answer.TheVariants.{Satisfied, Refuted, Spent}
use Rattle.svr_query.specs.Answer.{IsAnswer, IsModel}
use Rattle.svr_soft.specs.End.{IsPassEnd}
use Rattle.svr_soft.specs.Later.{IsLater}
use Rattle.svr_soft.proofs.Passes.{apart-within, within-among, within-left}
use Rattle.svr_soft.proofs.Ended.{later_then, end_later}
use Rattle.svr_soft.proofs.priority.pass_in_turn.Goals as goal

pub ask-requires-clause-within : goal.ask-requires-clause-within
ask-requires-clause-within c =
    within-among c.args.solver.now.vars c.args.base.now (c.args.base.now ++ c.args.soft.now) (within-left c.args.base.now c.args.soft.now) c.requires.within

pub ask-requires-clause-apart : goal.ask-requires-clause-apart
ask-requires-clause-apart c = apart-within c.args.base.now (c.args.base.now ++ c.args.soft.now) (within-left c.args.base.now c.args.soft.now) c.requires.apart

pub soft_in_turn-requires-clause-within : goal.soft_in_turn-requires-clause-within
soft_in_turn-requires-clause-within c = rw c.ask.ensures.vars c.requires.within

pub soft_in_turn-requires-clause-prefer : goal.soft_in_turn-requires-clause-prefer
soft_in_turn-requires-clause-prefer c = c.requires.prefer ∙ sym c.ask.ensures.vars

pub soft_in_turn-requires-clause-values : goal.soft_in_turn-requires-clause-values
soft_in_turn-requires-clause-values c =
    let a : IsAnswer c.args.solver.now c.args.base.now c.args.budget (Satisfied c.in-Satisfied.values) = rw c.in-Satisfied.is at c.in_ok-answer.ensures.answer in
    a.0 ∙ sym c.ask.ensures.vars

pub soft_in_turn-requires-clause-model : goal.soft_in_turn-requires-clause-model
soft_in_turn-requires-clause-model c =
    let a : IsAnswer c.args.solver.now c.args.base.now c.args.budget (Satisfied c.in-Satisfied.values) = rw c.in-Satisfied.is at c.in_ok-answer.ensures.answer in
    subst (λ (ks : List (List Lit)). IsModel ks c.args.base.now c.in-Satisfied.values.items) (sym c.ask.ensures.clauses) a.1

pub returns-in-Satisfied : goal.returns-in-Satisfied
returns-in-Satisfied c =
    let base = c.args.base.now in
    let soft = c.args.soft.now in
    let asked : IsLater c.args.solver.now c.ask.new.self = record { vars = c.ask.ensures.vars; clauses = c.ask.ensures.clauses; bits = c.ask.ensures.bits; begins = c.ask.ensures.begins } in
    let later = later_then asked c.soft_in_turn.ensures.later in
    record {
      vars = later.vars;
      clauses = later.clauses;
      bits = later.bits;
      begins = later.begins;
      end = IfOk-weaker c.soft_in_turn.result (λ e. IsPassEnd c.ask.new.self base soft c.args.budget e) _ (λ e h. end_later base soft c.args.budget e asked h) c.soft_in_turn.ensures.end;
    }

pub returns-in-Refuted-clause-end : goal.returns-in-Refuted-clause-end
returns-in-Refuted-clause-end c =
    let a : IsAnswer c.args.solver.now c.args.base.now c.args.budget (Refuted c.in-Refuted.log) = rw c.in-Refuted.is at c.in_ok-answer.ensures.answer in
    (no_valuation-from_accepted c.args.solver.now.clauses c.args.base.now c.in-Refuted.log.steps c.in-Refuted.log.goal a.1 a.0, a)

pub returns-in-Spent-clause-end : goal.returns-in-Spent-clause-end
returns-in-Spent-clause-end c =
    let a : IsAnswer c.args.solver.now c.args.base.now c.args.budget (Spent c.in-Spent.log c.in-Spent.first) = rw c.in-Spent.is at c.in_ok-answer.ensures.answer in
    (tt, a.0, omega (arith, a.1), a.3)
