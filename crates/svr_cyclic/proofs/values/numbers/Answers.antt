use Rattle.std.proofs.Common.{◌≡◌, ◌∷◌, ◌++◌, [], ℕ, List, sym, ap, ◌∙◌, arith}
use Rattle.std.specs.List.{range_with_len}
use Rattle.std.proofs.Math.Pow.{pow_mono}
use Rattle.svr_expand.proofs.Kept.{range_more}
use Rattle.svr_cyclic.proofs.values.numbers.Goals as goal

pub overflow_cast-number : goal.overflow_cast-number
overflow_cast-number c =
    let most = pow_mono {i = c.args.width} {j = 64} c.requires in
    omega (arith, most, c.loop-value-test.true, c.count_of-value-end.ensures)

pub loop-value-preserved : goal.loop-value-preserved
loop-value-preserved c =
    c.in_ok-push.ensures.items ∙ ap (λ (xs : List ℕ). xs ++ c.loop-value.value ∷ []) c.loop-value.invariant ∙ sym (range_more c.loop-value.value)

pub returns : goal.returns
returns c =
    let all : c.loop-value.value ≡ c.count_of-value-end.result = omega (arith, c.loop-value-test.false) in
    c.loop-value.invariant ∙ ap (range_with_len 0) (all ∙ c.count_of-value-end.ensures)
