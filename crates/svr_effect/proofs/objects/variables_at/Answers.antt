use Rattle.std.proofs.Common.{map}
use Rattle.std.proofs.lemmas.List.{nil_from_length}
use Rattle.std.specs.Prelude.{slice_index}
use Rattle.svr_effect.proofs.Rows.{one_row, all_rows}
use Rattle.svr_effect.proofs.objects.variables_at.Goals as goal

pub variables-preserved : goal.variables-preserved
variables-preserved c =
    let f = slice_index c.args.script.now in
    one_row f c.variables.numbers _ (map f c.args.variables.now) c.variable_at.result c.variables.left.now c.in-Some.others.now c.in-Some.variable.now c.in_ok-push.ensures.ok c.variable_at.ensures c.in-Some.ensures.cases.0 c.variables.invariant

pub returns : goal.returns
returns c =
    let f = slice_index c.args.script.now in
    all_rows f c.variables.numbers (map f c.args.variables.now) c.variables.left.now (nil_from_length c.variables.left.now c.in_default.ensures.cases) c.variables.invariant
