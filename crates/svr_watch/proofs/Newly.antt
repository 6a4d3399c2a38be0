-- The entry at a place makes its negation false
use Rattle.std.proofs.Common.{◌≡◌, ℕ, ◌+◌, ◌<◌, Bool, true, false, not, List, [], ◌∷◌, ◌++◌, length, refl, ap, ◌∙◌, Some, None, get_or, take}
use Rattle.std.specs.Option.{option_map}
use Rattle.std.proofs.lemmas.List.{take_more}
use Rattle.svr_chain.specs.Clauses.{same_sign, flip}
use Rattle.svr_trail.specs.declared.Entry.{Entry}
use Rattle.svr_trail.specs.Trail.{sign_at, is_false, Each, WasOpen}
use Rattle.svr_trail.proofs.Trails.{sign_at-of_take, sign_at-push_same}
use Rattle.svr_watch.specs.Watch.{IsNewlyFalse}
use Rattle.svr_watch.proofs.Values.{false-next}

apart-sign : (b : Bool) → same_sign b (not b) ≡ false
apart-sign true = refl
apart-sign false = refl

pub newly-false : (es : List Entry) (head : ℕ) (e : Entry) → head < length es → Each WasOpen es → IsNewlyFalse es head (flip (get_or es head e).lit)
newly-false es head e h a =
    let d : Entry = get_or es head e in
    let o : sign_at (take head es) d.lit.var ≡ None = a head e h in
    let t : take (head + 1) es ≡ take head es ++ d ∷ [] = take_more es head e h in
    let p : sign_at (take (head + 1) es) d.lit.var ≡ Some d.lit.neg = ap (λ z. sign_at z d.lit.var) t ∙ sign_at-push_same (take head es) d d.lit.var o refl in
    let q : sign_at es d.lit.var ≡ Some d.lit.neg = sign_at-of_take es (head + 1) d.lit.var d.lit.neg p in
    record {
      inside = h;
      now = ap (option_map (λ n. same_sign n (not d.lit.neg))) q ∙ ap Some (apart-sign d.lit.neg);
      earlier = ap (option_map (λ n. same_sign n (not d.lit.neg))) o;
      set = ap (λ z. is_false (option_map (λ n. same_sign n (not d.lit.neg)) z)) p ∙ ap not (apart-sign d.lit.neg);
      next = λ x f. false-next es head e x h f;
    }
