use Rattle.std.proofs.Common.{map, ap, ◌∙◌}
use Rattle.svr_elab_names.specs.Tables.{bytes_of}
use Rattle.svr_elab_block.proofs.Named.{and_name_is}
use Rattle.svr_elab_block.proofs.inherit.with_name.Goals as goal

pub returns-in-Ok : goal.returns-in-Ok
returns-in-Ok c = ap (map bytes_of) c.in-Ok.ensures.keys ∙ and_name_is c.args.name c.args.names.now.keys
