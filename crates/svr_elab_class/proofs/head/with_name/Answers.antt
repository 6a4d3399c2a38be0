use Rattle.std.proofs.Common.{map, ap, ◌∙◌}
use Rattle.svr_elab_names.specs.Tables.{bytes_of}
use Rattle.svr_elab_class.proofs.Tables.{name_added}
use Rattle.svr_elab_class.proofs.head.with_name.Goals as goal

pub returns-in-Ok : goal.returns-in-Ok
returns-in-Ok c = ap (map bytes_of) c.in-Ok.ensures.keys ∙ name_added c.args.names.now.keys c.args.name
