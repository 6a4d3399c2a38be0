use Rattle.std.proofs.Common.{◌≡◌, ◌∙◌, sym, ap, Some, None, true, false}
use Rattle.svr_chain.specs.declared.clause.Lit.{Lit}
use Rattle.svr_chain.specs.Clauses.{flip, has}
use Rattle.svr_trail.specs.Trail.{value_in, reason_in}
use Rattle.svr_cdcl.specs.Learned.{is_decided, is_explained}
use Rattle.svr_query.proofs.Asked.{decided-has, never-true, denied-from, kept-flip, reason-there}
use Rattle.svr_query.proofs.run.refuted_by.Goals as goal

pub unreachable-requires : goal.unreachable-requires
unreachable-requires c =
    let es = c.args.search.now.entries in
    let assume = c.args.assume.now in
    let l : Lit = c.args.lit in
    let h : has assume l ≡ true = c.requires.assumed in
    let f : value_in es l ≡ Some false = c.requires.denied in
    let d : (x : Lit) → is_decided es x ≡ true → has assume x ≡ true = decided-has assume es c.requires.asked (never-true assume es l h f) in
    let n : reason_in es (flip l) ≡ None = ap (reason_in es) (sym c.flipped-denied.ensures) ∙ (sym c.reason.ensures.reason ∙ c.in_default.is) in
    reason-there assume es l c.requires.apart h f d n

pub returns-clause-found : goal.returns-clause-found
returns-clause-found c =
    let es = c.args.search.now.entries in
    let assume = c.args.assume.now in
    let l : Lit = c.args.lit in
    let h : has assume l ≡ true = c.requires.assumed in
    let f : value_in es l ≡ Some false = c.requires.denied in
    let d : (x : Lit) → is_decided es x ≡ true → has assume x ≡ true = decided-has assume es c.requires.asked (never-true assume es l h f) in
    let r = c.in_ok-explained in
    let q : is_explained es (Some (flip l)) r.explained.lits ≡ true = rw c.flipped-denied.ensures at r.ensures.explained in
    rw c.explain.ensures.same (r.ensures.derives, denied-from assume es (Some (flip l)) r.explained.lits d (λ x k. kept-flip assume l x h k) q)
