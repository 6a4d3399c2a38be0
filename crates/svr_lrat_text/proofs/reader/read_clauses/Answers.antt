use Rattle.std.proofs.Common.{◌≡◌, ℕ, ◌+◌, ◌-◌, List, [], ◌∷◌, ◌++◌, length, true, ap, ◌∙◌, arith}
use Rattle.std.proofs.lemmas.List.{length_push}
use Rattle.svr_chain.specs.declared.clause.Lit.{Lit}
use Rattle.svr_lrat_text.specs.File.{clause_words, is_clause}
use Rattle.std.proofs.lemmas.Result.{err_from_is_err_and}
use Rattle.svr_lrat_text.specs.Reading.{after, at_clauses, in_list}
use Rattle.svr_lrat_text.proofs.Steps.{stop-before, memory-stops}
use Rattle.svr_lrat_text.proofs.Taking.{clauses-next, clauses-none, clauses-written, all-more}
use Rattle.svr_lrat_text.proofs.reader.read_clauses.Goals as goal

pub returns-in_err-next-clause-goes : goal.returns-in_err-next-clause-goes
returns-in_err-next-clause-goes c =
    let vars = c.args.vars in
    let n = c.args.count in
    let i = c.loop.counter in
    let p = err_from_is_err_and c.from_residual.result c.from_residual.ensures.1 in
    rw (p.1, p.2)
    (stop-before (at_clauses vars n) (in_list vars true (at_clauses vars (n - (i + 1)))) c.args.cursor.now c.loop.cursor c.in_err-next.field-0.0
    (c.loop.invariant.goes ∙ ap (λ z. after z c.loop.cursor) (clauses-next vars n i c.loop-test.true)) (c.in_err-next.ensures.goes (at_clauses vars (n - (i + 1)))))

pub loop-preserved : goal.loop-preserved
loop-preserved c =
    let vars : ℕ = c.args.vars in
    let n : ℕ = c.args.count in
    let i : ℕ = c.loop.counter in
    let cs : List (List Lit) = c.loop.clauses.items in
    let x : List Lit = c.in_ok-next.next in
    let kept : c.keep.new.items.items ≡ cs ++ x ∷ [] = c.in_ok-keep.ensures.kept in
    record {
      written = rw kept (clauses-written clause_words cs x _ _ _ c.loop.invariant.written c.in_ok-next.ensures.written);
      within = rw kept (all-more (is_clause true vars) cs x c.loop.invariant.within c.in_ok-next.ensures.within);
      counted = ap length kept ∙ length_push cs x ∙ ap (λ k. k + 1) c.loop.invariant.counted;
      goes = c.loop.invariant.goes ∙ ap (λ z. after z c.loop.cursor) (clauses-next vars n i c.loop-test.true) ∙ c.in_ok-next.ensures.goes (at_clauses vars (n - (i + 1)));
    }

pub returns-clause-count : goal.returns-clause-count
returns-clause-count c = omega (arith, c.loop.invariant.counted, c.loop.auto.counter-end, c.loop-test.false)

pub returns-clause-goes : goal.returns-clause-goes
returns-clause-goes c = c.loop.invariant.goes ∙ ap (λ z. after z c.loop.cursor) (clauses-none c.args.vars c.args.count c.loop.counter c.loop-test.false)

pub returns-in_err-keep-clause-goes : goal.returns-in_err-keep-clause-goes
returns-in_err-keep-clause-goes c =
    let p = err_from_is_err_and c.from_residual-in_err-keep.result c.from_residual-in_err-keep.ensures.1 in
    rw (p.1, p.2) (memory-stops (at_clauses c.args.vars c.args.count) c.args.cursor.now c.in_err-keep.field-0.0 c.in_err-keep.ensures.memory)
