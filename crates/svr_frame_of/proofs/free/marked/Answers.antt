use Rattle.std.proofs.Common.{◌==◌, ◌++◌, ◌∷◌, [], sym, ◌∙◌, ap, arith}
use Rattle.std.proofs.lemmas.List.FromFn.{map-range_with_len_more}
use Rattle.svr_frame_of.proofs.free.marked.Goals as goal

pub loop-other-preserved : goal.loop-other-preserved
loop-other-preserved c =
    let at = c.loop-other.other in
    c.in_ok-push.ensures.ok ∙ ap (λ xs. xs ++ (at == c.args.prop) ∷ []) c.loop-other.invariant ∙ sym (map-range_with_len_more (λ q. q == c.args.prop) 0 at at (omega arith))
