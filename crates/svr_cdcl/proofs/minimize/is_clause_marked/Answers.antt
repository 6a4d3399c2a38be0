use Rattle.std.proofs.Common.{◌≡◌, ◌∙◌, Some, ap, sym}
use Rattle.std.proofs.lemmas.Option.{same_Some}
use Rattle.svr_chain.specs.Log.{named}
use Rattle.svr_watch.specs.declared.store.Held.TheVariants.{Watched, Apart}
use Rattle.svr_watch.specs.Store.{clauses_of, held_lits}
use Rattle.svr_cdcl.proofs.minimize.is_clause_marked.Goals as goal

pub returns-in-Watched : goal.returns-in-Watched
returns-in-Watched c =
    λ k q.
    let a = c.args.store.now.arena in
    let n : named (clauses_of c.args.store.now) c.args.number ≡ Some (held_lits a (Watched c.in-Watched.clause)) = c.held.ensures.clause ∙ ap (λ z. Some (held_lits a z)) c.in-Watched.is in
    let e : k ≡ held_lits a (Watched c.in-Watched.clause) = same_Some _ _ (sym q ∙ n) in
    rw e (rw c.codes.ensures at c.are_codes_marked.ensures)

pub returns-in-Apart : goal.returns-in-Apart
returns-in-Apart c =
    λ k q.
    let a = c.args.store.now.arena in
    let n : named (clauses_of c.args.store.now) c.args.number ≡ Some (held_lits a (Apart c.in-Apart.clause)) = c.held.ensures.clause ∙ ap (λ z. Some (held_lits a z)) c.in-Apart.is in
    let e : k ≡ held_lits a (Apart c.in-Apart.clause) = same_Some _ _ (sym q ∙ n) in
    rw e (rw c.lits.ensures at c.are_lits_marked.ensures)
