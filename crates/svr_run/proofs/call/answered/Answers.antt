use Rattle.std.proofs.Common.{subst, inl, inr, refl}
use Rattle.std.proofs.lemmas.Result.{on_ok_weaker}
use Rattle.svr_typed.specs.ClassTerm.{FlatTerm}
use Rattle.svr_typed.specs.StmtTerm.{call_term}
use Rattle.svr_run.specs.Events.{AreNamed, end_in, names_at}
use Rattle.svr_run.proofs.Written.{failed_as, failed_so}
use Rattle.svr_run.proofs.call.answered.Goals as goal

pub settle-told-requires-clause-named : goal.settle-told-requires-clause-named
settle-told-requires-clause-named g c =
    subst (λ (k : FlatTerm). AreNamed (names_at k c.args.progress.now.world (call_term c.args.call.now)) c.in_ok-conflict.conflict) c.requires.class c.in_ok-conflict.ensures.names

pub returns-in_err-conflict-clause-not_told : goal.returns-in_err-conflict-clause-not_told
returns-in_err-conflict-clause-not_told g c = failed_as c.from_residual.result _ _ c.from_residual.ensures.1 (λ why e. inl (e, refl))

pub returns-clause-told : goal.returns-clause-told
returns-clause-told g c = on_ok_weaker c.settle-told.result (λ told. (end_in c.in_ok-conflict.conflict, c.in_ok-conflict.ensures.end, told)) c.settle-told.ensures.told

pub returns-clause-not_told : goal.returns-clause-not_told
returns-clause-not_told g c =
    failed_so c.settle-told.result _ _ _ c.settle-told.ensures.front c.settle-told.ensures.cause (λ why front cause. inr (end_in c.in_ok-conflict.conflict, c.in_ok-conflict.ensures.end, front, cause))
