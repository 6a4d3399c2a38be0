use Rattle.std.proofs.Math.Nat.{mod-lt}
use Rattle.svr_cyclic.proofs.values.place_of.Goals as goal

pub returns-clause-within : goal.returns-clause-within
returns-clause-within c = mod-lt c.args.word c.requires
