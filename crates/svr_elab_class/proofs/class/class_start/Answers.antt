use Rattle.std.proofs.Common.{map, ap}
use Rattle.svr_elab_names.specs.Tables.{class_of, bytes_of}
use Rattle.svr_elab_class.proofs.Forms.{start_is}
use Rattle.svr_elab_class.proofs.class.class_start.Goals as goal

pub returns : goal.returns
returns c =
    start_is (map class_of c.args.classes.now) c.args.base _ _ _ _ c.in_ok-props.ensures (rw c.as_ref.ensures at c.arrays_in-arrays.ensures) (ap (map bytes_of) c.new.ensures.empty) (ap (map bytes_of) c.new-2.ensures.empty)
