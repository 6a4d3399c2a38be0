use Rattle.std.proofs.Common.{◌≡◌, ◌∙◌, ℕ, List, ◌++◌, ◌∷◌, [], ap, ap₂, length}
use Rattle.svr_watch.specs.declared.store.Held.TheVariants.{Apart}
use Rattle.svr_watch.specs.StoreFields.{store_view}
use Rattle.svr_watch.proofs.Adding.{store-apart, get-front, get-within, listed-apart}
use Rattle.svr_watch.proofs.store.Store.add_apart.Goals as goal

pub invariant_of-self-2 : goal.invariant_of-self-2
invariant_of-self-2 c =
    let s = store_view c.self.inside in
    let v = c.self.invariant in
    let ps : List ℕ = c.self.inside.apart.items in
    let e : c.push_reserved.new.self.items ≡ s.held ++ Apart c.args.clause ∷ [] = c.push_reserved.ensures.items ∙ ap (λ z. z ++ Apart c.args.clause ∷ []) c.reserve.ensures.items in
    let l : c.len-place.result ≡ length s.held = c.len-place.ensures ∙ c.self.inside.held.ok.0 in
    let p : c.push_reserved-2.new.self.items ≡ ps ++ length s.held ∷ [] = c.push_reserved-2.ensures.items ∙ ap₂ (λ y z. y ++ z ∷ []) c.reserve-2.ensures.items l in
    record {
      kept = rw e (store-apart s c.args.clause v.kept c.requires);
      even = v.even;
      named = v.named;
      numbered = λ d i. rw e (let g = v.numbered d i in get-front s.held (Apart c.args.clause) _ (get-within s.held _ _ g) ∙ g);
      positive = v.positive;
      listed = rw (e, p) (listed-apart s.held ps c.args.clause v.listed);
    }
