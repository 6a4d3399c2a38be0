use Rattle.std.proofs.Common.{◌++◌, ◌∷◌, [], sym, ◌∙◌, ap, map, arith, append_assoc}
use Rattle.std.specs.List.{range_with_len}
use Rattle.std.proofs.lemmas.List.FromFn.{map-range_with_len_more}
use Rattle.svr_frame.specs.declared.slot.Slot.TheVariants.{Element}
use Rattle.svr_expand.proofs.slots.add_elements_of.Goals as goal

pub loop-at-preserved : goal.loop-at-preserved
loop-at-preserved c =
    let at = c.loop-at.at in
    let last = Element c.args.prop at in
    c.in_ok-push.ensures.ok ∙ ap (λ xs. xs ++ last ∷ []) c.loop-at.invariant ∙ append_assoc c.args.out.now (map (Element c.args.prop) (range_with_len 0 at)) (last ∷ [])
    ∙ ap (λ xs. c.args.out.now ++ xs) (sym (map-range_with_len_more (Element c.args.prop) 0 at at (omega arith)))
