use Rattle.std.proofs.Common.{◌≡◌, ℕ, List, [], ◌∷◌, ◌++◌, map, take, get_or, true, false, sym, ap, ◌∙◌}
use Rattle.std.proofs.lemmas.List.{take_all}
use Rattle.svr_chain.specs.declared.clause.Lit.{Lit}
use Rattle.svr_chain.specs.Clauses.{flip, has, is_tautology}
use Rattle.svr_lrat_judge.proofs.Opposites.{found-at, none-at, flips-more}
use Rattle.svr_lrat_judge.proofs.lemma.deny.Goals as goal

pub returns-then-has-clause-opposites : goal.returns-then-has-clause-opposites
returns-then-has-clause-opposites c =
    let xs : List Lit = c.args.lits.now in
    let i : ℕ = c.loop-lit.lit-index in
    let d : Lit = record { var = 0; neg = false } in
    let h : has (map flip (take i xs)) (get_or xs i d) ≡ true = ap (λ z. has z (get_or xs i d)) (sym c.loop-lit.invariant.denied) ∙ sym c.has.ensures ∙ c.if-has.true in
    sym (found-at xs i d c.loop-lit-test.true h)

pub loop-lit-preserved : goal.loop-lit-preserved
loop-lit-preserved c =
    let xs : List Lit = c.args.lits.now in
    let i : ℕ = c.loop-lit.lit-index in
    let d : Lit = record { var = 0; neg = false } in
    let h : has (map flip (take i xs)) (get_or xs i d) ≡ false = ap (λ z. has z (get_or xs i d)) (sym c.loop-lit.invariant.denied) ∙ sym c.has.ensures ∙ c.if-has.false in
    let e : c.push.new.self ≡ c.loop-lit.known ++ c.flipped.result ∷ [] = c.in_ok-push.ensures in
    record {
      apart = none-at xs i d c.loop-lit-test.true c.loop-lit.invariant.apart h;
      denied = e ∙ ap (λ z. c.loop-lit.known ++ z ∷ []) c.flipped.ensures ∙ ap (λ z. z ++ flip (get_or xs i d) ∷ []) c.loop-lit.invariant.denied ∙ flips-more xs i d c.loop-lit-test.true;
    }

pub returns-clause-opposites : goal.returns-clause-opposites
returns-clause-opposites c = sym (ap is_tautology (sym (take_all c.loop-lit.lit-index c.args.lits.now c.loop-lit-test.false)) ∙ c.loop-lit.invariant.apart)

pub returns-clause-denied : goal.returns-clause-denied
returns-clause-denied c = λ e. c.loop-lit.invariant.denied ∙ ap (map flip) (take_all c.loop-lit.lit-index c.args.lits.now c.loop-lit-test.false)
