use Rattle.std.proofs.lemmas.Result.{err_from_is_err_and}
use Rattle.svr_lrat_text.proofs.reader.clause_of.Goals as goal

pub returns-in_err-keep : goal.returns-in_err-keep
returns-in_err-keep c = let p = err_from_is_err_and c.from_residual.result c.from_residual.ensures.1 in rw (p.1, p.2) c.in_err-keep.ensures.memory
