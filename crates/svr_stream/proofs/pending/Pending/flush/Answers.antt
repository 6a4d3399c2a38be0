use Rattle.std.proofs.Common.{[], refl, sym, ap}
use Rattle.svr_stream.specs.Waiting.{Waiting}
use Rattle.svr_stream.proofs.Putting.{puts_parts, flushed}
use Rattle.svr_stream.proofs.pending.Pending.flush.Goals as goal

pub returns-clause-puts : goal.returns-clause-puts
returns-clause-puts g c =
    puts_parts _ _ _ _ c.args.self.now _ _ _ _ _ [] (sym (ap (λ (w : Waiting). w.bytes) c.self.view_is)) (sym (ap (λ (w : Waiting). w.failed) c.self.view_is)) refl refl
    (flushed _ _ _ _ _ _ c.write_on-self-inside.result c.write_on-self-inside.ensures)
