use Rattle.std.proofs.Common.{false}
use Rattle.svr_shape.proofs.ExtensionLemmas.{sign_tells}
use Rattle.svr_shape.proofs.extension.filler.Goals as goal

pub returns-then-signed-clause-value : goal.returns-then-signed-clause-value
returns-then-signed-clause-value c =
    rw c.if-signed.true (sign_tells c.args.b.now c.args.x.now (record { var = 0; neg = false }) c.requires.some c.requires.within)
