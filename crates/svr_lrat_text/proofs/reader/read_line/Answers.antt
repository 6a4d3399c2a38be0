use Rattle.std.proofs.Common.{sym, ◌∙◌}
use Rattle.std.proofs.lemmas.Result.{err_from_is_err_and}
use Rattle.svr_lrat_text.specs.Reading.{at_line, at_second}
use Rattle.svr_lrat_text.proofs.Steps.{stop-before}
use Rattle.svr_lrat_text.proofs.Taking.{took-end, took-id, id-stops}
use Rattle.svr_lrat_text.proofs.reader.read_line.Goals as goal

pub returns-then-is_end-clause-written : goal.returns-then-is_end-clause-written
returns-then-is_end-clause-written c = took-end c.args.cursor.now c.next-token.new.self c.next-token.result c.next-token.ensures (sym c.is_end.ensures ∙ c.if-is_end.true)

pub returns-in_err-id-clause-goes : goal.returns-in_err-id-clause-goes
returns-in_err-id-clause-goes c =
    let p = err_from_is_err_and c.from_residual.result c.from_residual.ensures.1 in
    rw (p.1, p.2) (id-stops c.args.vars c.args.cursor.now c.next-token.new.self c.next-token.result c.in_err-id.field-0.0 c.next-token.ensures (sym c.is_end.ensures ∙ c.if-is_end.false) c.in_err-id.ensures)

pub returns-in_err-line-clause-goes : goal.returns-in_err-line-clause-goes
returns-in_err-line-clause-goes c =
    let t = took-id c.args.vars c.args.cursor.now c.next-token.new.self c.next-token.result c.in_ok-id.id c.next-token.ensures (sym c.is_end.ensures ∙ c.if-is_end.false) c.in_ok-id.ensures in
    let p = err_from_is_err_and c.from_residual-in_err-line.result c.from_residual-in_err-line.ensures.1 in
    rw (p.1, p.2) (stop-before (at_line c.args.vars) (at_second c.args.vars) c.args.cursor.now c.next-token.new.self c.in_err-line.field-0.0 t.goes c.in_err-line.ensures.goes)

pub returns-clause-written : goal.returns-clause-written
returns-clause-written c =
    let t = took-id c.args.vars c.args.cursor.now c.next-token.new.self c.next-token.result c.in_ok-id.id c.next-token.ensures (sym c.is_end.ensures ∙ c.if-is_end.false) c.in_ok-id.ensures in
    t.written ∙ c.in_ok-line.ensures.written

pub returns-clause-within : goal.returns-clause-within
returns-clause-within c =
    let t = took-id c.args.vars c.args.cursor.now c.next-token.new.self c.next-token.result c.in_ok-id.id c.next-token.ensures (sym c.is_end.ensures ∙ c.if-is_end.false) c.in_ok-id.ensures in
    c.in_ok-line.ensures.within t.may

pub returns-clause-goes : goal.returns-clause-goes
returns-clause-goes c =
    let t = took-id c.args.vars c.args.cursor.now c.next-token.new.self c.next-token.result c.in_ok-id.id c.next-token.ensures (sym c.is_end.ensures ∙ c.if-is_end.false) c.in_ok-id.ensures in
    t.goes ∙ c.in_ok-line.ensures.goes
