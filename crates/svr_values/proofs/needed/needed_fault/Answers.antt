use Rattle.std.proofs.Common.{not, ◌||◌, [], sym, ◌∙◌, arith}
use Rattle.svr_typed.specs.ExprTerm.{expr_term}
use Rattle.svr_eval.specs.Reading.{reading_of}
use Rattle.svr_eval.specs.Value.{alone, is_set}
use Rattle.svr_values.proofs.Marked.{needed_more, needed_fails, needed_all}
use Rattle.svr_values.proofs.needed.needed_fault.Goals as goal

pub returns-then-not-holds_if_needed-clause-hold : goal.returns-then-not-holds_if_needed-clause-hold
returns-then-not-holds_if_needed-clause-hold c =
    let item = c.index-items-at.result in
    (needed_fails (λ e. is_set (alone (reading_of c.args.a.now) [] e)) c.args.items.now c.args.needed.now c.loop-at.at c.index-items-at.result (omega arith) c.index-items-at.is
    ((λ k. not (sym c.is_needed.ensures k) || is_set (alone (reading_of c.args.a.now) [] (expr_term item))) ∙ sym c.holds_if_needed.ensures ∙ c.if-not-holds_if_needed.true))

pub loop-at-preserved : goal.loop-at-preserved
loop-at-preserved c =
    let item = c.index-items-at.result in
    needed_more (λ e. is_set (alone (reading_of c.args.a.now) [] e)) c.args.items.now c.args.needed.now c.loop-at.at c.index-items-at.result (omega arith) c.index-items-at.is
    ((λ k. not (sym c.is_needed.ensures k) || is_set (alone (reading_of c.args.a.now) [] (expr_term item))) ∙ sym c.holds_if_needed.ensures ∙ c.if-not-holds_if_needed.false)
    c.loop-at.invariant

pub returns-clause-hold : goal.returns-clause-hold
returns-clause-hold c = sym (needed_all (λ e. is_set (alone (reading_of c.args.a.now) [] e)) c.args.items.now c.args.needed.now c.loop-at.at (omega arith) c.loop-at.invariant)
