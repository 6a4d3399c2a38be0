use Rattle.std.proofs.Common.{◌≡◌, ◌∙◌, ◌<◌, Some, get_or, length, ap, sym}
use Rattle.std.specs.List.{slice_get}
use Rattle.std.proofs.lemmas.List.{get_or_read}
use Rattle.std.proofs.lemmas.Option.{slice_get-get_or}
use Rattle.svr_watch.specs.declared.store.Held.{Held}
use Rattle.svr_watch.specs.declared.store.Held.TheVariants.{Watched, Apart}
use Rattle.svr_watch.specs.StoreFields.{store_view}
use Rattle.svr_watch.proofs.store.Store.apart.Goals as goal

pub returns-in-Apart-clause-some : goal.returns-in-Apart-clause-some
returns-in-Apart-clause-some c =
    let hs = (store_view c.self.inside).held in
    let i = c.args.place in
    let x : Held = c.index.result.now in
    let h : i < length hs = rw (← c.self.view_is) at c.requires in
    let e : x ≡ get_or hs i x = get_or_read hs i x h c.index.ensures x in
    rw (← c.self.view_is) (slice_get-get_or hs i x h ∙ ap (λ z. Some z) (sym e ∙ c.in-Apart.is))

pub returns-in-Watched-clause-none : goal.returns-in-Watched-clause-none
returns-in-Watched-clause-none c = λ k q.
    let hs = (store_view c.self.inside).held in
    let i = c.args.place in
    let x : Held = c.index.result.now in
    let h : i < length hs = rw (← c.self.view_is) at c.requires in
    let e : x ≡ get_or hs i x = get_or_read hs i x h c.index.ensures x in
    let g : slice_get hs i ≡ Some x = slice_get-get_or hs i x h ∙ ap (λ z. Some z) (sym e) in
    let y : Some (Watched c.in-Watched.field-0) ≡ Some (Apart k) = ap (λ z. Some z) (sym c.in-Watched.is) ∙ sym g ∙ rw (← c.self.view_is) at q in
    cc
