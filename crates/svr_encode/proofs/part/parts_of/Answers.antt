use Rattle.std.specs.Prelude.{slice_index}
use Rattle.svr_typed.specs.ExprTerm.{element, cell, reduce, of_object, bit_select, part_select, unary, binary, choice, inside, sign, expr_term, range_terms}
use Rattle.svr_encode.proofs.TermLemmas.{element_node, cell_node, reduce_node, of_object_node, bit_node, part_node, unary_node, binary_node, choice_node, inside_node, sign_node}
use Rattle.svr_encode.proofs.PartLemmas.{parts_give, bodies_give}
use Rattle.svr_encode.proofs.part.parts_of.Goals as goal

pub returns-in-Element-clause-parts : goal.returns-in-Element-clause-parts
returns-in-Element-clause-parts c =
    parts_give (λ p. slice_index c.args.inputs.now.sizes.now p) c.args.e.now (element c.in-Element.field-0 (expr_term c.get.result.now)) c.args.width c.args.signed c.of_one.result
    (element_node c.args.e.now.node c.in-Element.field-0 c.in-Element.index c.get.result.now c.in-Element.is c.get.ensures) c.of_one.ensures.parts

pub returns-in-Cell-clause-parts : goal.returns-in-Cell-clause-parts
returns-in-Cell-clause-parts c =
    parts_give (λ p. slice_index c.args.inputs.now.sizes.now p) c.args.e.now (cell c.in-Cell.field-0 c.in-Cell.field-1 (expr_term c.get-in-Cell.result.now) (expr_term c.get-in-Cell-2.result.now)) c.args.width c.args.signed c.of_two.result
    (cell_node c.args.e.now.node c.in-Cell.field-0 c.in-Cell.field-1 c.in-Cell.first c.in-Cell.second c.get-in-Cell.result.now c.get-in-Cell-2.result.now c.in-Cell.is c.get-in-Cell.ensures c.get-in-Cell-2.ensures) c.of_two.ensures.parts

pub returns-in-Reduce-clause-parts : goal.returns-in-Reduce-clause-parts
returns-in-Reduce-clause-parts c =
    parts_give (λ p. slice_index c.args.inputs.now.sizes.now p) c.args.e.now (reduce c.in-Reduce.prop c.in-Reduce.field-1 (expr_term c.get-in-Reduce.result.now)) c.args.width c.args.signed c.bodies.result
    (reduce_node c.args.e.now.node c.in-Reduce.prop c.in-Reduce.field-1 c.in-Reduce.body c.get-in-Reduce.result.now c.in-Reduce.is c.get-in-Reduce.ensures) (bodies_give c.bodies.result c.size.result _ (expr_term c.get-in-Reduce.result.now) c.size.ensures c.bodies.ensures.parts)

pub returns-in-Of-clause-parts : goal.returns-in-Of-clause-parts
returns-in-Of-clause-parts c =
    parts_give (λ p. slice_index c.args.inputs.now.sizes.now p) c.args.e.now (of_object c.in-Of.field-0 (expr_term c.get-in-Of.result.now)) c.args.width c.args.signed c.of_copy.result
    (of_object_node c.args.e.now.node c.in-Of.field-0 c.in-Of.part c.get-in-Of.result.now c.in-Of.is c.get-in-Of.ensures) c.of_copy.ensures.parts

pub returns-in-None-clause-parts : goal.returns-in-None-clause-parts
returns-in-None-clause-parts c =
    parts_give (λ p. slice_index c.args.inputs.now.sizes.now p) c.args.e.now (bit_select (expr_term c.get-in-None.result.now) (expr_term c.get-in-None-2.result.now) c.in-Select.low) c.args.width c.args.signed c.of_two-in-None.result
    (bit_node c.args.e.now.node c.in-Select.base c.in-Select.first c.get-in-None.result.now c.get-in-None-2.result.now c.in-Select.last c.in-Select.low c.in-Select.is c.in-None.is c.get-in-None.ensures c.get-in-None-2.ensures) c.of_two-in-None.ensures.parts

pub returns-in-Some-clause-parts : goal.returns-in-Some-clause-parts
returns-in-Some-clause-parts c =
    parts_give (λ p. slice_index c.args.inputs.now.sizes.now p) c.args.e.now (part_select (expr_term c.get-in-Some.result.now) (expr_term c.in-Select.first) (expr_term c.get-in-Some-2.result.now) c.in-Select.low) c.args.width c.args.signed c.of_two-in-Some.result
    (part_node c.args.e.now.node c.in-Select.base c.in-Select.first c.in-Some.last c.get-in-Some.result.now c.get-in-Some-2.result.now c.in-Select.last c.in-Select.low c.in-Select.is c.in-Some.is c.get-in-Some.ensures c.get-in-Some-2.ensures) c.of_two-in-Some.ensures.parts

pub returns-in-Unary-clause-parts : goal.returns-in-Unary-clause-parts
returns-in-Unary-clause-parts c =
    parts_give (λ p. slice_index c.args.inputs.now.sizes.now p) c.args.e.now (unary c.in-Unary.op (expr_term c.get-in-Unary.result.now)) c.args.width c.args.signed c.of_unary.result
    (unary_node c.args.e.now.node c.in-Unary.op c.in-Unary.arg c.get-in-Unary.result.now c.in-Unary.is c.get-in-Unary.ensures) c.of_unary.ensures.parts

pub returns-in-Binary-clause-parts : goal.returns-in-Binary-clause-parts
returns-in-Binary-clause-parts c =
    parts_give (λ p. slice_index c.args.inputs.now.sizes.now p) c.args.e.now (binary c.in-Binary.op (expr_term c.get-in-Binary.result.now) (expr_term c.get-in-Binary-2.result.now)) c.args.width c.args.signed c.of_binary.result
    (binary_node c.args.e.now.node c.in-Binary.op c.in-Binary.left c.in-Binary.right c.get-in-Binary.result.now c.get-in-Binary-2.result.now c.in-Binary.is c.get-in-Binary.ensures c.get-in-Binary-2.ensures) c.of_binary.ensures.parts

pub returns-in-Choice-clause-parts : goal.returns-in-Choice-clause-parts
returns-in-Choice-clause-parts c =
    parts_give (λ p. slice_index c.args.inputs.now.sizes.now p) c.args.e.now (choice (expr_term c.get-in-Choice.result.now) (expr_term c.get-in-Choice-2.result.now) (expr_term c.get-in-Choice-3.result.now)) c.args.width c.args.signed c.of_choice.result
    (choice_node c.args.e.now.node c.in-Choice.test c.in-Choice.yes c.in-Choice.no c.get-in-Choice.result.now c.get-in-Choice-2.result.now c.get-in-Choice-3.result.now c.in-Choice.is c.get-in-Choice.ensures c.get-in-Choice-2.ensures c.get-in-Choice-3.ensures) c.of_choice.ensures.parts

pub returns-in-Inside-clause-parts : goal.returns-in-Inside-clause-parts
returns-in-Inside-clause-parts c =
    parts_give (λ p. slice_index c.args.inputs.now.sizes.now p) c.args.e.now (inside (expr_term c.get-in-Inside.result.now) (range_terms c.as_slice.result.now)) c.args.width c.args.signed c.set_parts.result
    (inside_node c.args.e.now.node c.in-Inside.left c.get-in-Inside.result.now c.in-Inside.set c.as_slice.result.now c.in-Inside.is c.get-in-Inside.ensures c.as_slice.ensures) c.set_parts.ensures.parts

pub returns-in-Sign-clause-parts : goal.returns-in-Sign-clause-parts
returns-in-Sign-clause-parts c =
    parts_give (λ p. slice_index c.args.inputs.now.sizes.now p) c.args.e.now (sign c.in-Sign.signed (expr_term c.get-in-Sign.result.now)) c.args.width c.args.signed c.of_one-in-Sign.result
    (sign_node c.args.e.now.node c.in-Sign.signed c.in-Sign.arg c.get-in-Sign.result.now c.in-Sign.is c.get-in-Sign.ensures) c.of_one-in-Sign.ensures.parts
