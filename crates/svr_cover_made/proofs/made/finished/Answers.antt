use Rattle.std.proofs.Common.{refl}
use Rattle.svr_cover_made.proofs.OneByOne.{is-group}
use Rattle.svr_cover_made.proofs.made.finished.Goals as goal

pub returns-clause-group : goal.returns-clause-group
returns-clause-group c = is-group c.args.plan _ c.as_slice.result.now refl refl c.as_slice.ensures c.in_ok-made.ensures refl
