use Rattle.std.proofs.Common.{[], ◌∷◌, ◌++◌, false, refl, ap, ◌∙◌, arith}
use Rattle.svr_chain.specs.declared.clause.Lit.{Lit}
use Rattle.svr_question.proofs.Spellings.{bit_spelled, bits_spelled}
use Rattle.svr_cyclic.proofs.row.spelled.Goals as goal

pub loop-bit-preserved : goal.loop-bit-preserved
loop-bit-preserved c =
    let d : Lit = record { var = 0; neg = false } in
    bit_spelled c.args.row.now c.loop-bit.bit-index d c.loop-bit.literals.items _ _ c.loop-bit.rest _ (omega arith) refl
    (c.in_ok-push.ensures.items ∙ ap (λ (b : Lit). c.loop-bit.literals.items ++ b ∷ []) c.digit.ensures) c.loop-bit.invariant

pub returns : goal.returns
returns c = bits_spelled c.args.row.now c.loop-bit.bit-index c.loop-bit.rest c.loop-bit.literals.items _ (omega arith) c.loop-bit.invariant
