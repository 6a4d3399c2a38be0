use Rattle.std.proofs.Common.{◌≡◌, drop, map, [], None}
use Rattle.svr_token.specs.Names.{names_of}
use Rattle.svr_elab_fault.specs.Refusals.{first_one}
use Rattle.svr_elab_names.specs.Names as names_spec
use Rattle.svr_elab_names.specs.Tables.{class_of, bytes_of}
use Rattle.svr_elab_target.specs.Named as spec
use Rattle.svr_elab_target.proofs.list.names_fault.Given as goal

abbrev pub invariant-loop-name : goal.invariant-loop-name
invariant-loop-name l = record {
  same : spec.names_faults first_one (names_of l.names.names) (names_spec.class_props (map class_of l.names.classes.now) l.class) (map bytes_of l.before.keys) l.fault (drop l.name-index l.list)
      ≡ spec.names_faults first_one (names_of l.names.names) (names_spec.class_props (map class_of l.names.classes.now) l.class) [] None l.list;
}
