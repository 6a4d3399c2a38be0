use Rattle.std.proofs.Common.{arith, ◌∙◌, to_z, of_z}
use Rattle.std.specs.Int.{w128}
use Rattle.std.proofs.lemmas.Int.{to_z-of_z}
use Rattle.svr_inputs.specs.Inputs.{read_at}
use Rattle.svr_inputs.proofs.ElementLemmas.{cell_known}
use Rattle.svr_inputs.proofs.elements.cell_by.Goals as goal

pub overflow_cast-row : goal.overflow_cast-row
overflow_cast-row c = omega (arith, c.requires.row_few)

pub overflow_cast-column : goal.overflow_cast-column
overflow_cast-column c = omega (arith, c.requires.column_few)

pub read-first-requires-clause-fits : goal.read-first-requires-clause-fits
read-first-requires-clause-fits c = c.in-Some-Some.ensures.1

pub read-second-requires-clause-fits : goal.read-second-requires-clause-fits
read-second-requires-clause-fits c = c.in-Some-Some.ensures'.1

pub returns-in-Some-Some-clause-value : goal.returns-in-Some-Some-clause-value
returns-in-Some-Some-clause-value c =
    cell_known (λ v. read_at c.args.inputs.now v) c.args.prop c.args.inner c.args.own c.in-Some-Some.first c.in-Some-Some.second c.args.row.now c.args.column.now c.args.row_signed c.args.column_signed (to_z w128 (of_z w128 c.read-first.result)) (to_z w128 (of_z w128 c.read-second.result)) c.known_cell.result
    c.in-Some-Some.ensures.0 c.in-Some-Some.ensures'.0 c.known_cell.ensures.extends (to_z-of_z w128 c.read-first.result (record { sfits = c.read-first.type_inv }) ∙ c.read-first.ensures) (to_z-of_z w128 c.read-second.result (record { sfits = c.read-second.type_inv }) ∙ c.read-second.ensures) c.known_cell.ensures.value

pub returns-in_default-clause-value : goal.returns-in_default-clause-value
returns-in_default-clause-value c = c.some_cell.ensures.value
