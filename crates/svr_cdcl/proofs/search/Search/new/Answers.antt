use Rattle.std.proofs.Common.{◌≡◌, ◌*◌, ◌<◌, ◌≤◌, ◌∙◌, ◌++◌, ◌∷◌, List, [], get_or, length, ap, sym, subst}
use Rattle.std.proofs.lemmas.List.{take_all}
use Rattle.svr_chain.specs.declared.clause.Lit.{Lit}
use Rattle.svr_chain.specs.Same.{SameClauses}
use Rattle.svr_trail.specs.Trail.{TrailView}
use Rattle.svr_watch.specs.Store.{clauses_of}
use Rattle.svr_watch.proofs.Fresh.{same-more}
use Rattle.svr_cdcl.proofs.Fresh.{fresh-search}
use Rattle.svr_cdcl.proofs.search.Search.new.Goals as goal

pub loop-clause-preserved : goal.loop-clause-preserved
loop-clause-preserved c =
    let inv = c.loop-clause.invariant in
    let ks = c.args.cnf.now.clauses.items in
    let s = c.loop-clause.store in
    let t = c.push.new.self in
    let i = c.loop-clause.clause-index in
    let d : List Lit = c.clause-item.result in
    let v : c.deref-clause-items.result.now ≡ ks = c.deref-clause-items.ensures.value in
    let h : i < length ks = rw v at c.loop-clause-test.true in
    let e : d ≡ get_or ks i d = c.clause-item.is ∙ ap (λ z. get_or z i d) v in
    let a : SameClauses (clauses_of t) (clauses_of s ++ d ∷ []) = rw c.lits.ensures at c.in_ok-push.ensures.clauses in
    record {
      codes = c.push.ensures.codes ∙ inv.codes;
      same = same-more (clauses_of s) (clauses_of t) ks i d h e inv.same a;
    }

pub invariant_of-result : goal.invariant_of-result
invariant_of-result c =
    let inv = c.loop-clause.invariant in
    let ks = c.args.cnf.now.clauses.items in
    let s = c.loop-clause.store in
    let n = c.args.cnf.now.vars in
    let i = c.loop-clause.clause-index in
    let v : c.deref-clause-items.result.now ≡ ks = c.deref-clause-items.ensures.value in
    let h : length ks ≤ i = rw v at c.loop-clause-test.false in
    let m : SameClauses (clauses_of s) ks = subst (SameClauses (clauses_of s)) (take_all i ks h) inv.same in
    let z = fresh-search s n ks c.in_ok-trail.trail c.in_ok-ends.ends.items c.in_ok-heads.heads.items c.in_ok-trail.ensures c.in_ok-ends.ensures.items c.in_ok-heads.ensures.items m c.requires in
    let y : c.in_ok-trail.trail.vars ≡ n = ap (λ (x : TrailView). x.vars) c.in_ok-trail.ensures in
    record {
      kept = z.0;
      watched = z.1;
      codes = inv.codes ∙ ap (λ x. 2 * x) (sym y);
      room = rw y c.in_ok-ends.ensures.capacity;
      heads_room = rw y c.in_ok-heads.ensures.capacity;
      marks = rw y c.in_ok-marks.ensures;
    }
