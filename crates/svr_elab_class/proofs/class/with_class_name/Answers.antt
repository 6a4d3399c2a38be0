use Rattle.std.proofs.Common.{map, ap}
use Rattle.svr_elab_names.specs.Tables.{global_of, class_of}
use Rattle.svr_elab_class.proofs.Declared.{class_named}
use Rattle.svr_elab_class.proofs.class.with_class_name.Goals as goal

pub returns-clause-names : goal.returns-clause-names
returns-clause-names c =
    let g = c.args.globals in
    class_named (map global_of g.names.entries) _ (map class_of g.classes) _ c.args.name.now _ c.in_ok-names.ensures c.number_behind-number.ensures (ap (map class_of) c.as_slice.ensures)
