use Rattle.std.proofs.Common.{◌<◌, sym, ◌∙◌, ap, subst, List, [], ◌∷◌, ◌++◌, length, take, get_or, ℕ, ◌+◌, arith}
use Rattle.std.proofs.lemmas.Grind.{get_or_default_zero}
use Rattle.std.proofs.lemmas.List.{length-set}
use Rattle.svr_elab_order.proofs.Sources.{PutBefore, put_step}
use Rattle.svr_elab_order.proofs.graph.put_before.Goals as goal

pub loop-name-preserved : goal.loop-name-preserved
loop-name-preserved c =
    let start = c.args.lists.now.items in
    let lists = c.loop-name.lists.items in
    let later = c.args.later.now in
    let i = c.loop-name.name-index in
    let name = get_or later i 0 in
    let within : i < length later = omega (arith, c.loop-name-test.true) in
    let P : List (List ℕ) → Type 0 = λ xs. PutBefore start xs c.args.item (take (i + 1) later) in
    record {
      length_is = ap (λ (xs : List (List ℕ)). length xs) c.in_ok-push_at.ensures ∙ length-set lists name (get_or lists name [] ++ c.args.item ∷ []) ∙ c.loop-name.invariant.length_is;
      before = subst P (sym c.in_ok-push_at.ensures) (put_step start lists c.args.item later i name within (sym (get_or_default_zero later i name within)) c.loop-name.invariant.length_is c.loop-name.invariant.before);
    }
