use Rattle.std.proofs.Common.{◌≡◌, drop, map, []}
use Rattle.svr_token.specs.Names.{names_of}
use Rattle.svr_elab_names.specs.Names as names_spec
use Rattle.svr_elab_names.specs.Tables.{class_of}
use Rattle.svr_elab_target.specs.Named as spec
use Rattle.svr_elab_target.proofs.list.numbers_of.Given as goal

abbrev pub invariant-loop-name : goal.invariant-loop-name
invariant-loop-name l = record {
  same : spec.numbers_of (names_of l.names.names) (names_spec.class_props (map class_of l.names.classes.now) l.class) l.numbers (drop l.name-index l.list)
      ≡ spec.numbers_of (names_of l.names.names) (names_spec.class_props (map class_of l.names.classes.now) l.class) [] l.list;
}
