use Rattle.std.proofs.Common.{length, ap, sym, ◌∙◌, Vec, Global}
use Rattle.std.proofs.lemmas.Result.{IfOk-weaker}
use Rattle.svr_chain.specs.declared.clause.Lit.{Lit}
use Rattle.svr_typed.specs.ExprTerm.{expr_term}
use Rattle.svr_gate.specs.Numbers.{number}
use Rattle.svr_gate.specs.Circuit.{GivesNumber}
use Rattle.svr_gate.proofs.Vectors.{GivesNumber-same}
use Rattle.svr_num.specs.Num.{extend_of, read_of}
use Rattle.svr_eval.specs.Value as spec
use Rattle.svr_inputs.specs.Inputs.{read_at}
use Rattle.svr_encode.proofs.TreeLemmas.{own_signed, read_same}
use Rattle.svr_encode.proofs.node.cell.Goals as goal

pub returns-clause-value : goal.returns-clause-value
returns-clause-value c =
    let g = c.args.given.now in
    let x = c.value_at-row.result.now in
    let y = c.value_at-column.result.now in
    let first = expr_term c.args.first.now in
    let second = expr_term c.args.second.now in
    IfOk-weaker c.cell_of.result (λ (ls : Vec Lit Global). GivesNumber c.cell_of.new.b ls.items c.args.width (λ v. extend_of c.args.signed c.args.width c.args.own
    (spec.cell_at (read_at g.inputs.now v) c.args.prop c.args.inner (read_of c.args.first.now.signed (length x) (number v x)) (read_of c.args.second.now.signed (length y) (number v y))))) _
    (λ ls h. GivesNumber-same (λ v. extend_of c.args.signed c.args.width c.args.own (spec.cell_at (read_at g.inputs.now v) c.args.prop c.args.inner (spec.index_read (read_at g.inputs.now v) g.env.now first) (spec.index_read (read_at g.inputs.now v) g.env.now second))) h
    (λ v m.
    let here = c.cell_of.ensures.extends.keeps v m in
    ap (extend_of c.args.signed c.args.width c.args.own)
    (ap (λ z. spec.cell_at (read_at g.inputs.now v) c.args.prop c.args.inner z (read_of c.args.second.now.signed (length y) (number v y)))
    (read_same c.args.first.now.signed (spec.sign_of first) (length x) (spec.size_of first) (number v x) (spec.alone (read_at g.inputs.now v) g.env.now first) (sym (own_signed c.args.first.now c.requires.first_typed))
    (ap length c.value_at-row.ensures ∙ c.requires.parts.0.len) (ap (number v) c.value_at-row.ensures ∙ c.requires.parts.0.value v here))
    ∙ ap (spec.cell_at (read_at g.inputs.now v) c.args.prop c.args.inner (spec.index_read (read_at g.inputs.now v) g.env.now first))
    (read_same c.args.second.now.signed (spec.sign_of second) (length y) (spec.size_of second) (number v y) (spec.alone (read_at g.inputs.now v) g.env.now second) (sym (own_signed c.args.second.now c.requires.second_typed))
    (ap length c.value_at-column.ensures ∙ c.requires.parts.1.0.len) (ap (number v) c.value_at-column.ensures ∙ c.requires.parts.1.0.value v here)))))
    c.cell_of.ensures.value
