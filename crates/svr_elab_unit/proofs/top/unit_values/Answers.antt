use Rattle.std.proofs.Common.{refl}
use Rattle.svr_elab_names.specs.Tables.{space_of}
use Rattle.svr_elab_unit.specs.Seen.{valued_part}
use Rattle.svr_elab_unit.proofs.Forms.{told_as}
use Rattle.svr_elab_unit.proofs.Runs.{values_are}
use Rattle.svr_elab_unit.proofs.top.unit_values.Goals as goal

pub returns-clause-value : goal.returns-clause-value
returns-clause-value c =
    told_as (valued_part c.decls_valued-2.new.made.keys) c.decls_valued-2.result _ _ c.decls_valued-2.ensures.value
    (values_are (space_of c.args.names.now) (valued_part c.args.made.now.keys c.no_values-start.result) _ _ c.args.stands.now _ c.args.made.now.keys c.args.unit.now.outer c.args.unit.now.inner _ _ _
    (c.no_values-start.ensures.value _) c.in_ok-part.ensures.value refl c.behind-rest.ensures refl c.as_slice-outer.ensures c.as_slice.ensures)
