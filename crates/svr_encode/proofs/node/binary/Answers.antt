use Rattle.std.proofs.Common.{◌∙◌, sym}
use Rattle.svr_typed.specs.ExprTerm.{expr_term}
use Rattle.svr_vector.specs.Places.{rows}
use Rattle.svr_inputs.specs.Inputs.{read_at}
use Rattle.svr_encode.proofs.ValueLemmas.{context_gives, shift_gives, pair_gives, logical_gives}
use Rattle.svr_encode.proofs.node.binary.Goals as goal

pub returns-in-ByPair-clause-value : goal.returns-in-ByPair-clause-value
returns-in-ByPair-clause-value c =
    let g = c.args.given.now in
    pair_gives c.args.b.now c.compared_truth.new.b (λ v. read_at g.inputs.now v) g.env.now c.args.op c.in-ByPair.comparison (expr_term c.args.left.now) (expr_term c.args.right.now) c.args.width c.args.signed c.are_signed-both.result (rows g.values.now)
    c.value_at-x-in-ByPair.result.now c.value_at-y.result.now c.compared_truth.result (sym c.binary_kind.ensures ∙ c.in-ByPair.is) c.are_signed-both.ensures c.requires.parts c.value_at-x-in-ByPair.ensures c.value_at-y.ensures c.compared_truth.ensures.extends
    c.compared_truth.ensures.value

pub returns-in-InContext-clause-value : goal.returns-in-InContext-clause-value
returns-in-InContext-clause-value c =
    let g = c.args.given.now in
    context_gives c.args.b.now c.combined.new.b (λ v. read_at g.inputs.now v) g.env.now c.args.op c.in-InContext.arithmetic (expr_term c.args.left.now) (expr_term c.args.right.now) c.args.width c.args.signed (rows g.values.now) c.value_at-x.result.now c.value_at.result.now c.combined.result
    (sym c.binary_kind.ensures ∙ c.in-InContext.is) c.requires.parts c.value_at-x.ensures c.value_at.ensures c.combined.ensures.extends c.combined.ensures.value

pub returns-in-Shifted-clause-value : goal.returns-in-Shifted-clause-value
returns-in-Shifted-clause-value c =
    let g = c.args.given.now in
    shift_gives c.args.b.now c.shifted.new.b (λ v. read_at g.inputs.now v) g.env.now c.args.op c.in-Shifted.shift (expr_term c.args.left.now) (expr_term c.args.right.now) c.args.width c.args.signed (rows g.values.now) c.value_at-x-in-Shifted.result.now c.value_at-in-Shifted.result.now c.shifted.result
    (sym c.binary_kind.ensures ∙ c.in-Shifted.is) c.requires.parts c.value_at-x-in-Shifted.ensures c.value_at-in-Shifted.ensures c.shifted.ensures.extends c.shifted.ensures.value

pub returns-in-Logical-clause-value : goal.returns-in-Logical-clause-value
returns-in-Logical-clause-value c =
    let g = c.args.given.now in
    logical_gives c.args.b.now c.connected_truth.new.b (λ v. read_at g.inputs.now v) g.env.now c.args.op c.in-Logical.connective
    (expr_term c.args.left.now) (expr_term c.args.right.now) c.args.width c.args.signed (rows g.values.now) c.value_at-x-in-Logical.result.now c.value_at-y-in-Logical.result.now c.connected_truth.result
    (sym c.binary_kind.ensures ∙ c.in-Logical.is) c.requires.parts c.value_at-x-in-Logical.ensures c.value_at-y-in-Logical.ensures c.connected_truth.ensures.extends c.connected_truth.ensures.value
