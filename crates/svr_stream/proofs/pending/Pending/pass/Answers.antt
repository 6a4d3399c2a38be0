use Rattle.std.proofs.Common.{[], refl, sym, ap, ◌∙◌}
use Rattle.svr_stream.specs.Waiting.{Waiting}
use Rattle.svr_stream.proofs.Putting.{puts_parts}
use Rattle.svr_stream.proofs.pending.Pending.pass.Goals as goal

pub returns : goal.returns
returns g c =
    puts_parts _ _ _ _ c.args.self.now _ [] [] _ _ c.args.piece.now c.requires (sym (ap (λ (w : Waiting). w.failed) c.self.view_is)) (ap (λ (w : Waiting). w.bytes) c.self.view_is ∙ c.requires) refl c.write_on-self-inside.ensures
