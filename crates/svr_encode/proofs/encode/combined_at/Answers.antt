use Rattle.std.proofs.Common.{◌≡◌, option_map, inl, inr, rules, sym, ap, ◌∙◌, Vec, Global}
use Rattle.std.proofs.lemmas.Result.{IfOk-weaker}
use Rattle.svr_chain.specs.declared.clause.Lit.{Lit}
use Rattle.svr_typed.specs.ExprTerm.{number, prop, element, cell, size, script, loop_index, reduce, of_object, unary, binary, choice, join, sign, inside, copies, select_of, expr_term, expr_terms, range_terms, node_term}
use Rattle.svr_gate.specs.Circuit.{GivesNumber}
use Rattle.svr_gate.proofs.Vectors.{GivesNumber-same}
use Rattle.svr_num.specs.Num.{extend_of}
use Rattle.svr_eval.specs.Value.{truth, val, fits_some, operand_of, replicated}
use Rattle.svr_inputs.specs.Inputs.{read_at}
use Rattle.svr_encode.proofs.ValueLemmas.{node_gives, inside_val, copies_val, select_gives}
use Rattle.svr_encode.proofs.TermLemmas.{number_node, prop_node, element_node, cell_node, size_node, script_node, loop_index_node, reduce_node, of_object_node, unary_node, binary_node, choice_node, join_node, sign_node, inside_term, copies_term, select_term}
use Rattle.svr_encode.proofs.encode.combined_at.Goals.{in-None, in-Some}
use Rattle.svr_encode.proofs.encode.combined_at.Goals as goal

pub returns-after-last-clause-value : goal.returns-after-last-clause-value
returns-after-last-clause-value c =
    let g = c.args.given.now in
    let node : node_term c.args.e.now.node ≡ select_of (expr_term c.get-in-Select.result.now) (expr_term c.in-Select.first) (option_map expr_term c.in-Select.last) c.in-Select.low =
    ap node_term c.in-Select.is ∙ select_term c.in-Select.base c.in-Select.first c.in-Select.last c.in-Select.low
    ∙ ap (λ x. select_of (expr_term x) (expr_term c.in-Select.first) (option_map expr_term c.in-Select.last) c.in-Select.low) (sym c.get-in-Select.ensures) in
    elim c.match-last.branch [
      | in-None w ↦ select_gives c.selected.new.b (λ v. read_at g.inputs.now v) g.env.now c.args.e.now c.get-in-Select.result.now c.in-Select.first c.match-last.last.now c.in-Select.last c.in-Select.low c.args.width c.args.signed c.selected.result _
          c.requires.typed node (inl (cc, cc)) c.selected.ensures.value (search rules)
      | in-Some w ↦ select_gives c.selected.new.b (λ v. read_at g.inputs.now v) g.env.now c.args.e.now c.get-in-Select.result.now c.in-Select.first c.match-last.last.now c.in-Select.last c.in-Select.low c.args.width c.args.signed c.selected.result _
          c.requires.typed node (inr cc) c.selected.ensures.value (search rules)
    ]

pub returns-in-Inside-clause-value : goal.returns-in-Inside-clause-value
returns-in-Inside-clause-value c =
    let g = c.args.given.now in
    let node : node_term c.args.e.now.node ≡ inside (expr_term c.get-in-Inside.result.now) (range_terms c.as_slice.result.now) =
    ap node_term c.in-Inside.is ∙ inside_term c.in-Inside.left c.in-Inside.set
    ∙ ap (λ x. inside (expr_term x) (range_terms c.in-Inside.set)) (sym c.get-in-Inside.ensures)
    ∙ ap (λ xs. inside (expr_term c.get-in-Inside.result.now) (range_terms xs)) (sym c.as_slice.ensures) in
    IfOk-weaker c.inside.result (λ (ls : Vec Lit Global). GivesNumber c.inside.new.b ls.items c.args.width (λ v. truth c.args.width c.args.signed
    (fits_some (read_at g.inputs.now v) g.env.now (operand_of (read_at g.inputs.now v) g.env.now (expr_term c.get-in-Inside.result.now)) (range_terms c.as_slice.result.now)))) _
    (λ ls h. GivesNumber-same (λ v. val (read_at g.inputs.now v) g.env.now (expr_term c.args.e.now) c.args.width c.args.signed) h
    (λ v m. sym (inside_val (read_at g.inputs.now v) g.env.now c.args.e.now (expr_term c.get-in-Inside.result.now) (range_terms c.as_slice.result.now) c.args.width c.args.signed node)))
    c.inside.ensures.value

pub returns-in-Copies-clause-value : goal.returns-in-Copies-clause-value
returns-in-Copies-clause-value c =
    let g = c.args.given.now in
    let node : node_term c.args.e.now.node ≡ copies (expr_term c.get-in-Copies.result.now) (expr_terms c.as_slice-parts.result.now) =
    ap node_term c.in-Copies.is ∙ copies_term c.in-Copies.count c.in-Copies.parts
    ∙ ap (λ x. copies (expr_term x) (expr_terms c.in-Copies.parts)) (sym c.get-in-Copies.ensures)
    ∙ ap (λ xs. copies (expr_term c.get-in-Copies.result.now) (expr_terms xs)) (sym c.as_slice-parts.ensures) in
    IfOk-weaker c.replicated.result (λ (ls : Vec Lit Global). GivesNumber c.replicated.new.b ls.items c.args.width (λ v. extend_of c.args.signed c.args.width c.args.e.now.width
    (replicated (read_at g.inputs.now v) g.env.now (expr_term c.get-in-Copies.result.now) (expr_terms c.as_slice-parts.result.now)))) _
    (λ ls h. GivesNumber-same (λ v. val (read_at g.inputs.now v) g.env.now (expr_term c.args.e.now) c.args.width c.args.signed) h
    (λ v m. sym (copies_val (read_at g.inputs.now v) g.env.now c.args.e.now (expr_term c.get-in-Copies.result.now) (expr_terms c.as_slice-parts.result.now) c.args.width c.args.signed node)))
    c.replicated.ensures.value

pub returns-in-Number-clause-value : goal.returns-in-Number-clause-value
returns-in-Number-clause-value c =
    let g = c.args.given.now in
    node_gives c.literal_at.new.b (λ v. read_at g.inputs.now v) g.env.now c.args.e.now (number c.in-Number.value c.in-Number.every) c.args.width c.args.signed c.literal_at.result
    (number_node c.args.e.now.node c.in-Number.value c.in-Number.every c.in-Number.is) c.literal_at.ensures.value

pub returns-in-Prop-clause-value : goal.returns-in-Prop-clause-value
returns-in-Prop-clause-value c =
    let g = c.args.given.now in
    node_gives c.element_at.new.b (λ v. read_at g.inputs.now v) g.env.now c.args.e.now (prop c.in-Prop.prop) c.args.width c.args.signed c.element_at.result
    (prop_node c.args.e.now.node c.in-Prop.prop c.in-Prop.is) c.element_at.ensures.value

pub returns-in-Element-clause-value : goal.returns-in-Element-clause-value
returns-in-Element-clause-value c =
    let g = c.args.given.now in
    node_gives c.indexed.new.b (λ v. read_at g.inputs.now v) g.env.now c.args.e.now (element c.in-Element.prop (expr_term c.get.result.now)) c.args.width c.args.signed c.indexed.result
    (element_node c.args.e.now.node c.in-Element.prop c.in-Element.index c.get.result.now c.in-Element.is c.get.ensures) c.indexed.ensures.value

pub returns-in-Cell-clause-value : goal.returns-in-Cell-clause-value
returns-in-Cell-clause-value c =
    let g = c.args.given.now in
    node_gives c.cell.new.b (λ v. read_at g.inputs.now v) g.env.now c.args.e.now (cell c.in-Cell.prop c.in-Cell.inner (expr_term c.get-row.result.now) (expr_term c.get-column.result.now)) c.args.width c.args.signed c.cell.result
    (cell_node c.args.e.now.node c.in-Cell.prop c.in-Cell.inner c.in-Cell.first c.in-Cell.second c.get-row.result.now c.get-column.result.now c.in-Cell.is c.get-row.ensures c.get-column.ensures) c.cell.ensures.value

pub returns-in-Size-clause-value : goal.returns-in-Size-clause-value
returns-in-Size-clause-value c =
    let g = c.args.given.now in
    node_gives c.size_at.new.b (λ v. read_at g.inputs.now v) g.env.now c.args.e.now (size c.in-Size.prop c.in-Size.inner) c.args.width c.args.signed c.size_at.result
    (size_node c.args.e.now.node c.in-Size.prop c.in-Size.inner c.in-Size.is) c.size_at.ensures.value

pub returns-in-Script-clause-value : goal.returns-in-Script-clause-value
returns-in-Script-clause-value c =
    let g = c.args.given.now in
    node_gives c.script_at.new.b (λ v. read_at g.inputs.now v) g.env.now c.args.e.now (script c.in-Script.variable) c.args.width c.args.signed c.script_at.result
    (script_node c.args.e.now.node c.in-Script.variable c.in-Script.is) c.script_at.ensures.value

pub returns-in-Loop-clause-value : goal.returns-in-Loop-clause-value
returns-in-Loop-clause-value c =
    let g = c.args.given.now in
    node_gives c.index_at.new.b (λ v. read_at g.inputs.now v) g.env.now c.args.e.now (loop_index c.in-Loop.k) c.args.width c.args.signed c.index_at.result
    (loop_index_node c.args.e.now.node c.in-Loop.k c.in-Loop.is) c.index_at.ensures.value

pub returns-in-Reduce-clause-value : goal.returns-in-Reduce-clause-value
returns-in-Reduce-clause-value c =
    let g = c.args.given.now in
    node_gives c.reduced.new.b (λ v. read_at g.inputs.now v) g.env.now c.args.e.now (reduce c.in-Reduce.prop c.in-Reduce.op (expr_term c.get-in-Reduce.result.now)) c.args.width c.args.signed c.reduced.result
    (reduce_node c.args.e.now.node c.in-Reduce.prop c.in-Reduce.op c.in-Reduce.body c.get-in-Reduce.result.now c.in-Reduce.is c.get-in-Reduce.ensures) c.reduced.ensures.value

pub returns-in-Of-clause-value : goal.returns-in-Of-clause-value
returns-in-Of-clause-value c =
    let g = c.args.given.now in
    node_gives c.args.b.now (λ v. read_at g.inputs.now v) g.env.now c.args.e.now (of_object c.in-Of.field-0 (expr_term c.get-in-Of.result.now)) c.args.width c.args.signed c.copy.result
    (of_object_node c.args.e.now.node c.in-Of.field-0 c.in-Of.part c.get-in-Of.result.now c.in-Of.is c.get-in-Of.ensures) c.copy.ensures

pub returns-in-Unary-clause-value : goal.returns-in-Unary-clause-value
returns-in-Unary-clause-value c =
    let g = c.args.given.now in
    node_gives c.unary.new.b (λ v. read_at g.inputs.now v) g.env.now c.args.e.now (unary c.in-Unary.op (expr_term c.get-in-Unary.result.now)) c.args.width c.args.signed c.unary.result
    (unary_node c.args.e.now.node c.in-Unary.op c.in-Unary.arg c.get-in-Unary.result.now c.in-Unary.is c.get-in-Unary.ensures) c.unary.ensures.value

pub returns-in-Binary-clause-value : goal.returns-in-Binary-clause-value
returns-in-Binary-clause-value c =
    let g = c.args.given.now in
    node_gives c.binary.new.b (λ v. read_at g.inputs.now v) g.env.now c.args.e.now (binary c.in-Binary.op (expr_term c.get-in-Binary.result.now) (expr_term c.get-in-Binary-2.result.now)) c.args.width c.args.signed c.binary.result
    (binary_node c.args.e.now.node c.in-Binary.op c.in-Binary.left c.in-Binary.right c.get-in-Binary.result.now c.get-in-Binary-2.result.now c.in-Binary.is c.get-in-Binary.ensures c.get-in-Binary-2.ensures) c.binary.ensures.value

pub returns-in-Choice-clause-value : goal.returns-in-Choice-clause-value
returns-in-Choice-clause-value c =
    let g = c.args.given.now in
    node_gives c.choice.new.b (λ v. read_at g.inputs.now v) g.env.now c.args.e.now (choice (expr_term c.get-in-Choice.result.now) (expr_term c.get-in-Choice-2.result.now) (expr_term c.get-in-Choice-3.result.now)) c.args.width c.args.signed c.choice.result
    (choice_node c.args.e.now.node c.in-Choice.test c.in-Choice.yes c.in-Choice.no c.get-in-Choice.result.now c.get-in-Choice-2.result.now c.get-in-Choice-3.result.now c.in-Choice.is c.get-in-Choice.ensures c.get-in-Choice-2.ensures c.get-in-Choice-3.ensures) c.choice.ensures.value

pub returns-in-Join-clause-value : goal.returns-in-Join-clause-value
returns-in-Join-clause-value c =
    let g = c.args.given.now in
    node_gives c.joined_at.new.b (λ v. read_at g.inputs.now v) g.env.now c.args.e.now (join (expr_terms c.as_slice-in-Join.result.now)) c.args.width c.args.signed c.joined_at.result
    (join_node c.args.e.now.node c.in-Join.parts c.as_slice-in-Join.result.now c.in-Join.is c.as_slice-in-Join.ensures) c.joined_at.ensures.value

pub returns-in-Sign-clause-value : goal.returns-in-Sign-clause-value
returns-in-Sign-clause-value c =
    let g = c.args.given.now in
    node_gives c.extended.new.b (λ v. read_at g.inputs.now v) g.env.now c.args.e.now (sign c.in-Sign.signed (expr_term c.get-in-Sign.result.now)) c.args.width c.args.signed c.extended.result
    (sign_node c.args.e.now.node c.in-Sign.signed c.in-Sign.arg c.get-in-Sign.result.now c.in-Sign.is c.get-in-Sign.ensures) c.extended.ensures.value
