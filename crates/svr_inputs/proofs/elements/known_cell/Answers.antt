use Rattle.std.proofs.Common.{◌∙◌, arith, Vec, Global}
use Rattle.std.specs.Int.{w128}
use Rattle.std.proofs.lemmas.Int.{to_z-of_z}
use Rattle.std.proofs.lemmas.Result.{IfOk-weaker}
use Rattle.svr_chain.specs.declared.clause.Lit.{Lit}
use Rattle.svr_gate.specs.Circuit.{GivesNumber}
use Rattle.svr_gate.proofs.Vectors.{GivesNumber-same}
use Rattle.svr_eval.specs.Value as spec
use Rattle.svr_inputs.specs.Inputs.{read_at}
use Rattle.svr_inputs.proofs.ReadLemmas.{past_zero}
use Rattle.svr_inputs.proofs.ElementLemmas.{row_outside}
use Rattle.svr_inputs.proofs.elements.known_cell.Goals as goal

pub returns-in-None-clause-value : goal.returns-in-None-clause-value
returns-in-None-clause-value c =
    IfOk-weaker c.numeral.result (λ (ls : Vec Lit Global). GivesNumber c.numeral.new.b ls.items c.args.own (λ v. 0)) _
    (λ ls g. GivesNumber-same (λ v. spec.cell_at (read_at c.args.inputs.now v) c.args.prop c.args.inner c.args.row c.args.column) g
    (λ v m.
    row_outside (read_at c.args.inputs.now v) c.args.prop c.args.inner c.size.result c.args.row c.args.column
    (λ k h e. c.in-None.ensures k (omega (arith, h)) (to_z-of_z w128 c.args.row c.ranges.row ∙ e))
    (λ k h. past_zero c.args.inputs.now v c.args.prop k c.requires.inputs (omega (arith, h, c.size.ensures)))))
    c.numeral.ensures.value
