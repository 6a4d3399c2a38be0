use Rattle.std.proofs.Common.{map, ap, ◌∙◌}
use Rattle.svr_flat.specs.Named.{bytes_of}
use Rattle.svr_flat.proofs.Listed.{and_name_is}
use Rattle.svr_flat.proofs.names.with_name.Goals as goal

pub returns-in-Ok : goal.returns-in-Ok
returns-in-Ok c = ap (map bytes_of) c.in-Ok.ensures.keys ∙ and_name_is c.args.name c.args.names.keys
