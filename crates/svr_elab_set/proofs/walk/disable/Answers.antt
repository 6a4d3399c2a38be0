use Rattle.svr_elab_part.specs.Seen.{part_of}
use Rattle.svr_elab_item.specs.Seen.{item_part}
use Rattle.svr_elab_set.proofs.Forms.{disable_is}
use Rattle.svr_elab_set.proofs.walk.disable.Goals as goal

pub returns : goal.returns
returns c = disable_is c.args.around (item_part c.disable_item.result) (part_of c.in_ok-target.target) _ c.disable_item.ensures c.in_ok-target.ensures
