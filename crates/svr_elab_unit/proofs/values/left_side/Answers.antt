use Rattle.std.proofs.Common.{refl}
use Rattle.svr_elab_part.specs.Seen.{part_of}
use Rattle.svr_elab_unit.proofs.Forms.{told_as, left_is}
use Rattle.svr_elab_unit.proofs.values.left_side.Goals as goal

pub returns : goal.returns
returns c = told_as part_of c.path_part.result _ _ c.path_part.ensures (left_is c.args.var.name c.args.var.number c.args.var.stand c.found-meant.result _ refl c.found-meant.ensures)
