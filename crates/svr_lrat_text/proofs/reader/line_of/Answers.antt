use Rattle.std.proofs.Common.{◌≡◌, true, sym, ap, ◌∙◌}
use Rattle.std.proofs.lemmas.Result.{err_from_is_err_and}
use Rattle.svr_lrat_text.specs.Reading.{after, at_line, at_second, in_list, in_delete, in_hints}
use Rattle.svr_lrat_text.proofs.Steps.{stop-before}
use Rattle.svr_lrat_text.proofs.Taking.{took-delete, other-second}
use Rattle.svr_lrat_text.proofs.reader.line_of.Goals as goal

pub returns-in_err-ids-clause-goes : goal.returns-in_err-ids-clause-goes
returns-in_err-ids-clause-goes c =
    let vars = c.args.vars in
    let old = c.args.cursor.now in
    let new = c.takes_delete.new.self in
    let d = took-delete old new (c.takes_delete.ensures.yes c.if-takes_delete.true) in
    let p = err_from_is_err_and c.from_residual.result c.from_residual.ensures.1 in
    rw (p.1, p.2) (stop-before (at_second vars) (in_delete vars) old new c.in_err-ids.field-0.0 (d.goes vars) (c.in_err-ids.ensures.goes (at_line vars)))

pub returns-then-takes_delete-clause-goes : goal.returns-then-takes_delete-clause-goes
returns-then-takes_delete-clause-goes c =
    let d = took-delete c.args.cursor.now c.takes_delete.new.self (c.takes_delete.ensures.yes c.if-takes_delete.true) in
    d.goes c.args.vars ∙ c.in_ok-ids.ensures.goes (at_line c.args.vars)

pub returns-in_err-lits-clause-goes : goal.returns-in_err-lits-clause-goes
returns-in_err-lits-clause-goes c =
    let vars = c.args.vars in
    let old = c.args.cursor.now in
    let new = c.takes_delete.new.self in
    let n = c.takes_delete.ensures.no c.if-takes_delete.false in
    let g : after (at_second vars) old ≡ after (in_list vars true (in_hints vars)) new = other-second vars old n.1 ∙ ap (after (in_list vars true (in_hints vars))) (sym n.0) in
    let p = err_from_is_err_and c.from_residual-in_err-lits.result c.from_residual-in_err-lits.ensures.1 in
    rw (p.1, p.2) (stop-before (at_second vars) (in_list vars true (in_hints vars)) old new c.in_err-lits.field-0.0 g (c.in_err-lits.ensures.goes (in_hints vars)))

pub returns-in_err-hints-clause-goes : goal.returns-in_err-hints-clause-goes
returns-in_err-hints-clause-goes c =
    let vars = c.args.vars in
    let old = c.args.cursor.now in
    let new = c.takes_delete.new.self in
    let n = c.takes_delete.ensures.no c.if-takes_delete.false in
    let g : after (at_second vars) old ≡ after (in_list vars true (in_hints vars)) new = other-second vars old n.1 ∙ ap (after (in_list vars true (in_hints vars))) (sym n.0) in
    let p = err_from_is_err_and c.from_residual-in_err-hints.result c.from_residual-in_err-hints.ensures.1 in
    rw (p.1, p.2)
    (stop-before (at_second vars) (in_hints vars) old c.read_clause.new.cursor c.in_err-hints.field-0.0 (g ∙ c.in_ok-lits.ensures.goes (in_hints vars)) (c.in_err-hints.ensures.goes (at_line vars)))

pub returns-clause-goes : goal.returns-clause-goes
returns-clause-goes c =
    let vars = c.args.vars in
    let old = c.args.cursor.now in
    let new = c.takes_delete.new.self in
    let n = c.takes_delete.ensures.no c.if-takes_delete.false in
    let g : after (at_second vars) old ≡ after (in_list vars true (in_hints vars)) new = other-second vars old n.1 ∙ ap (after (in_list vars true (in_hints vars))) (sym n.0) in
    g ∙ c.in_ok-lits.ensures.goes (in_hints vars) ∙ c.in_ok-hints.ensures.goes (at_line vars)
