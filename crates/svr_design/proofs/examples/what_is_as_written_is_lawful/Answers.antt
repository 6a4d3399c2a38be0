use Rattle.std.proofs.Common.{arith}
use Rattle.svr_design.proofs.Written.{lawful}
use Rattle.svr_design.proofs.examples.what_is_as_written_is_lawful.Goals as goal

pub returns : goal.returns
returns c = record { written = lawful 2 (omega arith); most = lawful 99997 (omega arith) }
