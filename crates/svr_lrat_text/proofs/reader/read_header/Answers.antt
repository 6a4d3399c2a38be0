use Rattle.std.proofs.Common.{◌∷◌, ap, ◌∙◌}
use Rattle.std.proofs.lemmas.Result.{err_from_is_err_and}
use Rattle.svr_lrat_text.specs.declared.word.Word.TheVariants as w
use Rattle.svr_lrat_text.specs.File.{plain}
use Rattle.svr_lrat_text.specs.Reading.{at_problem, at_cnf, at_vars, at_count}
use Rattle.svr_lrat_text.proofs.Steps.{stop-before}
use Rattle.svr_lrat_text.proofs.Taking.{took-vars, took-count, vars-stops, count-stops}
use Rattle.svr_lrat_text.proofs.reader.read_header.Goals as goal

pub returns-in_err-take_cnf-clause-goes : goal.returns-in_err-take_cnf-clause-goes
returns-in_err-take_cnf-clause-goes c =
    let p = err_from_is_err_and c.from_residual-in_err-take_cnf.result c.from_residual-in_err-take_cnf.ensures.1 in
    rw (p.1, p.2) (stop-before at_problem at_cnf c.args.cursor.now c.take_problem.new.cursor c.in_err-take_cnf.field-0.0 c.in_ok-take_problem.ensures.goes c.in_err-take_cnf.ensures)

pub returns-in_err-vars-clause-goes : goal.returns-in_err-vars-clause-goes
returns-in_err-vars-clause-goes c =
    let p = err_from_is_err_and c.from_residual-in_err-vars.result c.from_residual-in_err-vars.ensures.1 in
    rw (p.1, p.2)
    (stop-before at_problem at_vars c.args.cursor.now c.take_cnf.new.cursor c.in_err-vars.field-0.0 (c.in_ok-take_problem.ensures.goes ∙ c.in_ok-take_cnf.ensures.goes)
    (vars-stops c.take_cnf.new.cursor c.next-first.new.self c.next-first.result c.in_err-vars.field-0.0 c.next-first.ensures c.in_err-vars.ensures))

pub returns-in_err-count-clause-goes : goal.returns-in_err-count-clause-goes
returns-in_err-count-clause-goes c =
    let v = took-vars c.take_cnf.new.cursor c.next-first.new.self c.next-first.result c.in_ok-vars.vars c.next-first.ensures c.in_ok-vars.ensures in
    let p = err_from_is_err_and c.from_residual-in_err-count.result c.from_residual-in_err-count.ensures.1 in
    rw (p.1, p.2)
    (stop-before at_problem (at_count c.in_ok-vars.vars) c.args.cursor.now c.next-first.new.self c.in_err-count.field-0.0 (c.in_ok-take_problem.ensures.goes ∙ c.in_ok-take_cnf.ensures.goes ∙ v.0.goes)
    (count-stops c.in_ok-vars.vars c.next-first.new.self c.next-second.new.self c.next-second.result c.in_err-count.field-0.0 c.next-second.ensures c.in_err-count.ensures))

pub returns-clause-written : goal.returns-clause-written
returns-clause-written c =
    let v = took-vars c.take_cnf.new.cursor c.next-first.new.self c.next-first.result c.in_ok-vars.vars c.next-first.ensures c.in_ok-vars.ensures in
    let n = took-count c.in_ok-vars.vars c.next-first.new.self c.next-second.new.self c.next-second.result c.in_ok-count.count c.next-second.ensures c.in_ok-count.ensures in
    c.in_ok-take_problem.ensures.written ∙ ap (λ z. w.Problem ∷ z) c.in_ok-take_cnf.ensures.written
    ∙ ap (λ z. w.Problem ∷ (w.Cnf ∷ z)) v.0.written ∙ ap (λ z. w.Problem ∷ (w.Cnf ∷ (plain c.in_ok-vars.vars ∷ z))) n.0.written

pub returns-clause-within : goal.returns-clause-within
returns-clause-within c =
    let v = took-vars c.take_cnf.new.cursor c.next-first.new.self c.next-first.result c.in_ok-vars.vars c.next-first.ensures c.in_ok-vars.ensures in
    let n = took-count c.in_ok-vars.vars c.next-first.new.self c.next-second.new.self c.next-second.result c.in_ok-count.count c.next-second.ensures c.in_ok-count.ensures in
    (v.1, n.1)

pub returns-clause-goes : goal.returns-clause-goes
returns-clause-goes c =
    let v = took-vars c.take_cnf.new.cursor c.next-first.new.self c.next-first.result c.in_ok-vars.vars c.next-first.ensures c.in_ok-vars.ensures in
    let n = took-count c.in_ok-vars.vars c.next-first.new.self c.next-second.new.self c.next-second.result c.in_ok-count.count c.next-second.ensures c.in_ok-count.ensures in
    c.in_ok-take_problem.ensures.goes ∙ c.in_ok-take_cnf.ensures.goes ∙ v.0.goes ∙ n.0.goes

pub returns-in_err-take_problem-clause-goes : goal.returns-in_err-take_problem-clause-goes
returns-in_err-take_problem-clause-goes c = let p = err_from_is_err_and c.from_residual.result c.from_residual.ensures.1 in rw (p.1, p.2) c.in_err-take_problem.ensures
