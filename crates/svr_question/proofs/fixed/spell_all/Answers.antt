use Rattle.std.proofs.Common.{ℕ, ◌++◌, Option, get_or, ap, ◌∙◌, arith}
use Rattle.svr_vector.specs.Places.{rows}
use Rattle.svr_inputs.specs.Inputs.{bits_of}
use Rattle.svr_phase.specs.Proof.{spelling_at}
use Rattle.svr_question.proofs.Spellings.{value_spelled, values_spelled}
use Rattle.svr_question.proofs.fixed.spell_all.Goals as goal

pub loop-choice-preserved : goal.loop-choice-preserved
loop-choice-preserved c =
    let i = c.loop-choice.choice-index in
    let d : ℕ × ℕ = (0, 0) in
    value_spelled (rows c.args.bits.now) c.args.table.now c.args.chosen.now i d c.loop-choice.literals.items _ (omega arith) c.loop-choice.invariant
    (c.in_ok-spell_row.ensures ∙ ap (λ (o : Option ℕ). c.loop-choice.literals.items ++ spelling_at (bits_of (rows c.args.bits.now) o) (get_or c.args.chosen.now i d).1) c.number_row.ensures)

pub returns : goal.returns
returns c = values_spelled (rows c.args.bits.now) c.args.table.now c.args.chosen.now c.loop-choice.choice-index c.loop-choice.literals.items (omega arith) c.loop-choice.invariant
