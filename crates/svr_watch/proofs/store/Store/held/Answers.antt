use Rattle.std.proofs.Common.{◌≡◌, ◌∙◌, ◌-◌, ◌<◌, List, Some, get_or, length, map, ap, sym, arith}
use Rattle.std.specs.Prelude.{IsSome}
use Rattle.std.specs.List.{slice_get}
use Rattle.std.proofs.lemmas.List.{get_or_read, length-map}
use Rattle.std.proofs.lemmas.Option.{slice_get-get_or}
use Rattle.svr_chain.specs.declared.clause.Lit.{Lit}
use Rattle.svr_chain.specs.Log.{named}
use Rattle.svr_trail.proofs.Grown.{named-at}
use Rattle.svr_watch.specs.declared.store.Held.{Held}
use Rattle.svr_watch.specs.declared.store.Held.TheVariants.{Watched}
use Rattle.svr_watch.specs.Store.{IsStore, clauses_of, held_lits}
use Rattle.svr_watch.specs.StoreFields.{store_view}
use Rattle.svr_watch.proofs.Named.{get_or-map, number-in}
use Rattle.svr_watch.proofs.store.Store.held.Goals as goal

pub returns-clause-clause : goal.returns-clause-clause
returns-clause-clause c =
    let s = store_view c.self.inside in
    let hs = s.held in
    let a = s.arena in
    let ks : List (List Lit) = map (held_lits a) hs in
    let n = c.args.number in
    let x : Held = c.index.result.now in
    let r : IsSome (named ks n) = rw (← c.self.view_is) at c.requires in
    let b = number-in (held_lits a) hs n r in
    let p : 0 < n = b.0 in
    let h : n - 1 < length hs = b.1 in
    let e : x ≡ get_or hs (n - 1) x = get_or_read hs (n - 1) x h c.index.ensures x in
    let l : length ks ≡ length hs = length-map hs (held_lits a) in
    let g : get_or ks (n - 1) (held_lits a x) ≡ held_lits a x = get_or-map (held_lits a) hs (n - 1) x (held_lits a x) h ∙ ap (held_lits a) (sym e) in
    rw (← c.self.view_is) (named-at ks (n - 1) n (held_lits a x) (omega (arith, h, l)) (omega (arith, p)) ∙ ap (λ z. Some z) g)

pub returns-clause-named : goal.returns-clause-named
returns-clause-named c = λ d q.
    let s = store_view c.self.inside in
    let hs = s.held in
    let n = c.args.number in
    let x : Held = c.index.result.now in
    let r : IsSome (named (clauses_of s) n) = rw (← c.self.view_is) at c.requires in
    let b = number-in (held_lits s.arena) hs n r in
    let h : n - 1 < length hs = b.1 in
    let e : x ≡ get_or hs (n - 1) x = get_or_read hs (n - 1) x h c.index.ensures x in
    let k : IsStore s = rw (← c.self.view_is) at c.vars.ensures.kept in
    let g : slice_get hs (n - 1) ≡ Some (Watched d) = slice_get-get_or hs (n - 1) x h ∙ ap (λ z. Some z) (sym e ∙ q) in
    rw (← c.self.view_is) (k.placed (n - 1) d g)
