use Rattle.std.proofs.Common.{◌≡◌, drop, map}
use Rattle.svr_token.specs.Names.{names_of}
use Rattle.svr_elab_names.specs.Names as names_spec
use Rattle.svr_elab_names.specs.Tables.{class_of}
use Rattle.svr_elab_unit.specs.Listed as spec
use Rattle.svr_elab_unit.proofs.listed.and_names.Given as goal

abbrev pub invariant-loop-name : goal.invariant-loop-name
invariant-loop-name l = record {
  same : spec.and_names (names_of l.names.names) (names_spec.class_props (map class_of l.names.classes.now) l.class) l.homes.keys (drop l.name-index l.list)
      ≡ spec.and_names (names_of l.names.names) (names_spec.class_props (map class_of l.names.classes.now) l.class) l.initial.homes.keys l.list;
}
