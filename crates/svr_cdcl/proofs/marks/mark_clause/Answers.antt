use Rattle.std.proofs.Common.{◌≡◌, ◌∙◌, Some, ap, sym}
use Rattle.std.proofs.lemmas.Option.{same_Some}
use Rattle.svr_chain.specs.Log.{named}
use Rattle.svr_watch.specs.declared.store.Held.TheVariants.{Watched, Apart}
use Rattle.svr_watch.specs.Store.{clauses_of, held_lits}
use Rattle.svr_cdcl.proofs.marks.mark_clause.Goals as goal

pub mark_codes-requires-clause-falsified : goal.mark_codes-requires-clause-falsified
mark_codes-requires-clause-falsified c =
    let a = c.args.store.now.arena in
    let n : named (clauses_of c.args.store.now) c.args.number ≡ Some (held_lits a (Watched c.in-Watched.clause)) = c.held.ensures.clause ∙ ap (λ z. Some (held_lits a z)) c.in-Watched.is in
    rw c.codes.ensures (c.requires.falsified (held_lits a (Watched c.in-Watched.clause)) n)

pub returns-in-Watched-clause-marked : goal.returns-in-Watched-clause-marked
returns-in-Watched-clause-marked c =
    λ k q.
    let a = c.args.store.now.arena in
    let n : named (clauses_of c.args.store.now) c.args.number ≡ Some (held_lits a (Watched c.in-Watched.clause)) = c.held.ensures.clause ∙ ap (λ z. Some (held_lits a z)) c.in-Watched.is in
    let e : k ≡ held_lits a (Watched c.in-Watched.clause) = same_Some _ _ (sym q ∙ n) in
    rw e (rw c.codes.ensures at c.mark_codes.ensures.marked)

pub mark_lits-requires-clause-falsified : goal.mark_lits-requires-clause-falsified
mark_lits-requires-clause-falsified c =
    let a = c.args.store.now.arena in
    let n : named (clauses_of c.args.store.now) c.args.number ≡ Some (held_lits a (Apart c.in-Apart.clause)) = c.held.ensures.clause ∙ ap (λ z. Some (held_lits a z)) c.in-Apart.is in
    rw c.lits.ensures (c.requires.falsified (held_lits a (Apart c.in-Apart.clause)) n)

pub returns-in-Apart-clause-marked : goal.returns-in-Apart-clause-marked
returns-in-Apart-clause-marked c =
    λ k q.
    let a = c.args.store.now.arena in
    let n : named (clauses_of c.args.store.now) c.args.number ≡ Some (held_lits a (Apart c.in-Apart.clause)) = c.held.ensures.clause ∙ ap (λ z. Some (held_lits a z)) c.in-Apart.is in
    let e : k ≡ held_lits a (Apart c.in-Apart.clause) = same_Some _ _ (sym q ∙ n) in
    rw e (rw c.lits.ensures at c.mark_lits.ensures.marked)
