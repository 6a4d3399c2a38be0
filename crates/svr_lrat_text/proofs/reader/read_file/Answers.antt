use Rattle.std.proofs.Common.{◌∙◌}
use Rattle.std.proofs.lemmas.Result.{err_from_is_err_and}
use Rattle.svr_lrat_text.specs.Words.{words}
use Rattle.svr_lrat_text.specs.Reading.{at_problem, at_clauses, at_line}
use Rattle.svr_lrat_text.proofs.Steps.{stop-before}
use Rattle.svr_lrat_text.proofs.Taking.{file-written, file-within}
use Rattle.svr_lrat_text.proofs.reader.read_file.Goals as goal

pub returns-in_err-clauses-clause-fault : goal.returns-in_err-clauses-clause-fault
returns-in_err-clauses-clause-fault c =
    let h = c.in_ok-header.header in
    let p = err_from_is_err_and c.from_residual-in_err-clauses.result c.from_residual-in_err-clauses.ensures.1 in
    rw (p.1, p.2) (stop-before at_problem (at_clauses h.vars h.count) c.args.cursor.now c.read_header.new.cursor c.in_err-clauses.field-0.0 c.in_ok-header.ensures.goes c.in_err-clauses.ensures.goes)

pub returns-in_err-lines-clause-fault : goal.returns-in_err-lines-clause-fault
returns-in_err-lines-clause-fault c =
    let h = c.in_ok-header.header in
    let p = err_from_is_err_and c.from_residual-in_err-lines.result c.from_residual-in_err-lines.ensures.1 in
    rw (p.1, p.2)
    (stop-before at_problem (at_line h.vars) c.args.cursor.now c.read_clauses.new.cursor c.in_err-lines.field-0.0 (c.in_ok-header.ensures.goes ∙ c.in_ok-clauses.ensures.goes) c.in_err-lines.ensures.fault)

pub returns-clause-written : goal.returns-clause-written
returns-clause-written c =
    let h = c.in_ok-header.header in
    file-written h.vars h.count c.in_ok-clauses.clauses.items c.in_ok-lines.lines.items (words c.args.cursor.now) (words c.read_header.new.cursor) (words c.read_clauses.new.cursor)
    c.in_ok-header.ensures.written c.in_ok-clauses.ensures.count c.in_ok-clauses.ensures.written c.in_ok-lines.ensures.written

pub returns-clause-within : goal.returns-clause-within
returns-clause-within c =
    let h = c.in_ok-header.header in
    file-within h.vars h.count c.in_ok-clauses.clauses.items c.in_ok-lines.lines.items c.in_ok-header.ensures.within c.in_ok-clauses.ensures.count c.in_ok-clauses.ensures.within c.in_ok-lines.ensures.within

pub returns-in_err-header-clause-fault : goal.returns-in_err-header-clause-fault
returns-in_err-header-clause-fault c = let p = err_from_is_err_and c.from_residual.result c.from_residual.ensures.1 in rw (p.1, p.2) c.in_err-header.ensures.goes
