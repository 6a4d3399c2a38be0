use Rattle.std.proofs.Common.{true, ap, ◌∙◌}
use Rattle.std.specs.List.{list_all}
use Rattle.std.proofs.lemmas.Result.{err_from_is_err_and}
use Rattle.svr_lrat_text.specs.File.{is_entry}
use Rattle.svr_lrat_text.proofs.Taking.{clause-within}
use Rattle.svr_lrat_text.proofs.reader.read_clause.Goals as goal

pub returns-in_err-numbers-clause-goes : goal.returns-in_err-numbers-clause-goes
returns-in_err-numbers-clause-goes c = λ next.
    let p = err_from_is_err_and c.from_residual.result c.from_residual.ensures.1 in rw (p.1, p.2) (c.in_err-numbers.ensures.goes next)

pub returns-clause-within : goal.returns-clause-within
returns-clause-within c =
    clause-within c.args.vars c.as_slice.result.now c.clause_of.result c.clause_of.ensures
    (ap (list_all (is_entry true c.args.vars true)) c.as_slice.ensures ∙ c.in_ok-numbers.ensures.within)
