use Rattle.std.proofs.Common.{sym, ap}
use Rattle.svr_stream.specs.Waiting.{Waiting}
use Rattle.svr_stream.proofs.Putting.{finished}
use Rattle.svr_stream.proofs.pending.Pending.finish.Goals as goal

pub returns-then-write_on : goal.returns-then-write_on
returns-then-write_on g c =
    finished _ _ _ _ c.args.self _ _ c.write_on.result _ (sym (ap (λ (w : Waiting). w.bytes) c.self.view_is)) (sym (ap (λ (w : Waiting). w.failed) c.self.view_is)) c.if-write_on.true c.write_on.ensures

pub returns : goal.returns
returns g c =
    finished _ _ _ _ c.args.self _ _ c.write_on.result _ (sym (ap (λ (w : Waiting). w.bytes) c.self.view_is)) (sym (ap (λ (w : Waiting). w.failed) c.self.view_is)) c.if-write_on.false c.write_on.ensures
