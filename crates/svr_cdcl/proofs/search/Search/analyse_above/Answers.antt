use Rattle.std.proofs.Common.{◌≡◌, ◌∙◌, ℕ, ◌+◌, ◌-◌, ◌<◌, [], get_or, length, take, ap, sym, subst, arith}
use Rattle.std.proofs.lemmas.List.{get_or_read}
use Rattle.svr_trail.specs.Trail.{TrailView, IsClosed}
use Rattle.svr_cdcl.specs.Fields.{search_view}
use Rattle.svr_cdcl.proofs.Levels.{forced-above}
use Rattle.svr_cdcl.proofs.search.Search.analyse_above.Goals as goal

pub analyse_over-found-requires-clause-fresh : goal.analyse_over-found-requires-clause-fresh
analyse_over-found-requires-clause-fresh c = c.self.invariant.marks

pub analyse_over-found-requires-clause-forced : goal.analyse_over-found-requires-clause-forced
analyse_over-found-requires-clause-forced c =
    let a = c.self.inside in
    let s = search_view a in
    let v = c.self.invariant in
    let last : ℕ = c.len-last.result - 1 in
    let o : 0 < length s.ends = rw (← c.self.view_is) at c.requires.above in
    let l : length s.ends ≡ last + 1 = omega (arith, o, c.len-last.ensures, a.ends.ok.0) in
    let h : last < length s.ends = omega (arith, l) in
    let n : c.index-base.result.now ≡ get_or s.ends last 0 = get_or_read s.ends last c.index-base.result.now h c.index-base.ensures 0 in
    λ i e b r. forced-above s last v.kept l i e (omega (arith, n, b)) r

pub analyse_over-found-requires-clause-closed : goal.analyse_over-found-requires-clause-closed
analyse_over-found-requires-clause-closed c =
    let a = c.self.inside in
    let s = search_view a in
    let v = c.self.invariant in
    let last : ℕ = c.len-last.result - 1 in
    let o : 0 < length s.ends = rw (← c.self.view_is) at c.requires.above in
    let h : last < length s.ends = omega (arith, o, c.len-last.ensures, a.ends.ok.0) in
    let n : c.index-base.result.now ≡ get_or s.ends last 0 = get_or_read s.ends last c.index-base.result.now h c.index-base.ensures 0 in
    subst (λ z. IsClosed (take z s.entries) s.clauses) (sym n) (v.kept.closed last h)

pub invariant_of-self : goal.invariant_of-self
invariant_of-self c =
    let v = c.self.invariant in
    let empty : ℕ → TrailView = λ n. record { vars = n; entries = [] } in
    record {
      kept = v.kept;
      watched = v.watched;
      codes = v.codes;
      room = v.room;
      heads_room = v.heads_room;
      marks = c.undo.ensures ∙ ap empty (c.analyse_over-found.ensures.vars ∙ ap (λ (z : TrailView). z.vars) v.marks);
    }
