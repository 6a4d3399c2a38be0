use Rattle.std.proofs.Common.{[], refl, ap, ◌∙◌, subst}
use Rattle.std.proofs.lemmas.Result.{err_from_is_err_and}
use Rattle.svr_chain.specs.Valuations.{HaveNoValuation}
use Rattle.svr_lrat_file.specs.Views.{FileView}
use Rattle.svr_lrat_judge.specs.Verdict.{verdict_of}
use Rattle.svr_lrat.proofs.check.check_lrat.Goals as goal

pub returns-in_err-file-clause-fault : goal.returns-in_err-file-clause-fault
returns-in_err-file-clause-fault c = let p = err_from_is_err_and c.from_residual.result c.from_residual.ensures.1 in rw (p.1, p.2) c.in_err-file.ensures.fault

pub returns-in_err-file-clause-verdict : goal.returns-in_err-file-clause-verdict
returns-in_err-file-clause-verdict c = λ f h. let p = err_from_is_err_and c.from_residual.result c.from_residual.ensures.1 in rw (p.1, p.2) (c.in_err-file.ensures.only_file f h)

pub returns-in_err-file-clause-only_bad : goal.returns-in_err-file-clause-only_bad
returns-in_err-file-clause-only_bad c = λ at h. let p = err_from_is_err_and c.from_residual.result c.from_residual.ensures.1 in rw (p.1, p.2) (c.in_err-file.ensures.only_bad at h)

pub returns-in_err-file-clause-only_large : goal.returns-in_err-file-clause-only_large
returns-in_err-file-clause-only_large c = λ at h. let p = err_from_is_err_and c.from_residual.result c.from_residual.ensures.1 in rw (p.1, p.2) (c.in_err-file.ensures.only_large at h)

pub returns-in-Ok-clause-file : goal.returns-in-Ok-clause-file
returns-in-Ok-clause-file c = (c.in_ok-file.file, c.in_ok-file.ensures.file)

pub returns-in-Ok-clause-sound : goal.returns-in-Ok-clause-sound
returns-in-Ok-clause-sound c = λ e f h. subst (λ (z : FileView). HaveNoValuation z.clauses []) (c.in_ok-file.ensures.only_file f h) (c.in-Ok.ensures.sound e)

pub returns-in-Ok-clause-verdict : goal.returns-in-Ok-clause-verdict
returns-in-Ok-clause-verdict c = λ f h. c.in-Ok.ensures.verdict ∙ ap verdict_of (c.in_ok-file.ensures.only_file f h)

pub returns-in-Ok-clause-only_bad : goal.returns-in-Ok-clause-only_bad
returns-in-Ok-clause-only_bad c = λ at h. c.in_ok-file.ensures.only_bad at h

pub returns-in-Ok-clause-only_large : goal.returns-in-Ok-clause-only_large
returns-in-Ok-clause-only_large c = λ at h. c.in_ok-file.ensures.only_large at h

pub returns-in-Err-clause-verdict : goal.returns-in-Err-clause-verdict
returns-in-Err-clause-verdict c = λ f h. refl

pub returns-in-Err-clause-only_bad : goal.returns-in-Err-clause-only_bad
returns-in-Err-clause-only_bad c = λ at h. absurd (c.in_ok-file.ensures.only_bad at h)

pub returns-in-Err-clause-only_large : goal.returns-in-Err-clause-only_large
returns-in-Err-clause-only_large c = λ at h. absurd (c.in_ok-file.ensures.only_large at h)
