-- No clause and no entry
use Rattle.std.proofs.Common.{◌≡◌, ℕ, ◌+◌, ◌*◌, ◌/◌, ◌<◌, List, [], ◌∷◌, ◌++◌, length, refl, ap, sym, ◌∙◌, subst, arith, take, get_or}
use Rattle.std.proofs.lemmas.List.{take_more}
use Rattle.svr_chain.specs.declared.clause.Lit.{Lit}
use Rattle.svr_chain.specs.Same.{SameClauses}
use Rattle.svr_chain.proofs.Same.{same-then, same-push}
use Rattle.svr_watch.specs.Store.{StoreView}
use Rattle.svr_watch.specs.Watch.{IsWatchedSearch}

-- with no entry the watches are well
pub fresh-watched : (s : StoreView) → IsWatchedSearch s [] [] [] 0 0
fresh-watched s = record {
  present = λ c i. (λ f. cc, λ f. cc);
  levels = λ j h. absurd (omega arith);
  sized = refl;
  high = omega arith;
  heads_high = λ j h. absurd (omega arith);
  short = λ j h. absurd (omega arith);
  settled = λ i k h. absurd (omega arith);
  seen_high = omega arith;
}

-- a clause more of a formula
pub same-more : (old new : List (List Lit)) (ks : List (List Lit)) (i : ℕ) (k : List Lit) → i < length ks → k ≡ get_or ks i k → SameClauses old (take i ks) → SameClauses new (old ++ k ∷ [])
    → SameClauses new (take (i + 1) ks)
same-more old new ks i k h e a b =
    let m : take (i + 1) ks ≡ take i ks ++ k ∷ [] = take_more ks i k h ∙ ap (λ z. take i ks ++ z ∷ []) (sym e) in
    subst (SameClauses new) (sym m) (same-then new (old ++ k ∷ []) (take i ks ++ k ∷ []) b (same-push old (take i ks) k k a (λ x. refl)))

pub half-of : (codes vars : ℕ) → codes ≡ 2 * vars → codes / 2 ≡ vars
half-of codes vars e = omega arith
