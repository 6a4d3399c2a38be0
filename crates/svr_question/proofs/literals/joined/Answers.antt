use Rattle.std.proofs.Common.{List, ap, ◌∙◌, arith, Vec, Global}
use Rattle.std.specs.List.{flat_map}
use Rattle.std.proofs.lemmas.List.{take_all}
use Rattle.svr_chain.specs.declared.clause.Lit.{Lit}
use Rattle.svr_vector.specs.Places.{rows}
use Rattle.svr_question.proofs.InRow.{joined_more}
use Rattle.svr_question.proofs.literals.joined.Goals as goal

pub loop-row-preserved : goal.loop-row-preserved
loop-row-preserved c =
    joined_more c.args.bits.now c.loop-row.row-index c.row-item.result c.loop-row.all.items _ c.as_slice.result.now (omega arith) c.row-item.is c.loop-row.invariant c.as_slice.ensures.value c.in_ok-extend_from_slice.ensures.items

pub returns : goal.returns
returns c =
    c.loop-row.invariant ∙ ap (λ (vs : List (Vec Lit Global)). flat_map (λ row. row) (rows vs)) (take_all c.loop-row.row-index c.args.bits.now (omega arith))
