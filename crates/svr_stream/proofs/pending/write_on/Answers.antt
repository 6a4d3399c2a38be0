use Rattle.svr_stream.proofs.Putting.{stays, written_so}
use Rattle.svr_stream.proofs.pending.write_on.Goals as goal

pub returns-then-failed : goal.returns-then-failed
returns-then-failed g c = stays c.args.failed _ _ _ c.if-failed.true

pub returns : goal.returns
returns g c =
    written_so c.write_whole.result c.args.failed c.is_err.result _ _ _ _ c.args.piece.now c.write_whole.ensures.whole c.write_whole.ensures.front c.write_whole.ensures.cause c.if-failed.false c.is_err.ensures.value
