use Rattle.std.proofs.Common.{map, ap, ◌∙◌}
use Rattle.svr_elab_names.specs.Tables.{bytes_of}
use Rattle.svr_elab_target.proofs.Listed.{listed}
use Rattle.svr_elab_target.proofs.list.and_listed.Goals as goal

pub returns-in-Ok : goal.returns-in-Ok
returns-in-Ok c = ap (map bytes_of) c.in-Ok.ensures.keys ∙ listed c.args.before.keys c.args.name
