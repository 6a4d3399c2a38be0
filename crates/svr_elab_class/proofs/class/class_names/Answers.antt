use Rattle.std.proofs.Common.{map}
use Rattle.svr_elab_names.specs.Tables.{class_of}
use Rattle.svr_elab_class.specs.Seen.{class_part}
use Rattle.svr_elab_class.proofs.Forms.{class_is}
use Rattle.svr_elab_class.proofs.class.class_names.Goals as goal

pub returns : goal.returns
returns c = class_is (map class_of c.args.classes.now) c.args.base c.args.name.now (class_part c.args.part) _ c.count_inherited.ensures
