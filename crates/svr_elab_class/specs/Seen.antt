-- What the code keeps of classes, as what is known of them with the first refusal only.
use Rattle.std.specs.Prelude.{List, [], Option, map}
use Rattle.svr_token.specs.Names.{names_of}
use Rattle.svr_elab_fault.specs.declared.Fault.{Fault}
use Rattle.svr_elab_names.specs.Tables.{global_of, prop_of, class_of, bytes_of}
use Rattle.svr_elab_class.specs.Classes.{Head, ClassElab, in_class}
use Rattle.svr_elab_class.specs.declared.head.ClassHead.{ClassHead}
use Rattle.svr_elab_class.specs.declared.head.ClassPart.{ClassPart}

abbrev pub head_of : ClassHead → Head
head_of h = record {
  number = h.number;
  base = h.base;
  enums = h.enums.now;
  names = in_class (names_of h.names) (map global_of h.globals.now.entries) (map class_of h.classes.now) (map bytes_of h.later.now.keys) [];
}

abbrev pub class_part : ClassPart → ClassElab (Option Fault)
class_part c = record {
  props = map prop_of c.props.value.entries;
  arrays = c.arrays;
  own = map bytes_of c.own.keys;
  blocks = map bytes_of c.blocks.keys;
  faults = c.fault;
}
