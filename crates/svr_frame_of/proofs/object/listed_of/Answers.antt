use Rattle.std.proofs.Common.{◌==◌, ◌++◌, ◌∷◌, [], ℕ, Bool, List, sym, ◌∙◌, ap, arith}
use Rattle.std.specs.List.{list_any}
use Rattle.std.proofs.lemmas.List.FromFn.{map-range_with_len_more}
use Rattle.svr_frame_of.proofs.object.listed_of.Goals as goal

pub loop-prop-preserved : goal.loop-prop-preserved
loop-prop-preserved c =
    let at = c.loop-prop.prop in
    let f = λ (p : ℕ). list_any (λ q. q == p) c.args.listed.now in
    c.in_ok-push.ensures.ok ∙ ap (λ (b : Bool). c.loop-prop.random ++ b ∷ []) (c.has.ensures ∙ c.in_ok-set.ensures at) ∙ ap (λ (bs : List Bool). bs ++ f at ∷ []) c.loop-prop.invariant ∙ sym (map-range_with_len_more f 0 at at (omega arith))
