-- The kept ranks above a rank are the first ones.
use Rattle.std.proofs.Common.{◌≡◌, ◌<◌, ◌≤◌, ℕ, zero, suc, true, false, List, [], ◌∷◌, ◌++◌, map, length, take, get_or, refl, sym, ap, ◌∙◌, arith, nat_lt}
use Rattle.std.specs.Prelude.{filter}
use Rattle.std.specs.List.{AllWithin}
use Rattle.std.specs.List.Sorted.{IsNonDecreasingBy}
use Rattle.std.proofs.lemmas.Bool.{cond-true, cond-false}
use Rattle.std.proofs.lemmas.List.{take-map}
use Rattle.svr_chain.specs.declared.clause.Lit.{Lit}
use Rattle.svr_soft.specs.Kept.{lit_at, assumed_at, AreRanks}
use Rattle.svr_question.proofs.Ranks.{Rises, ranks_rise}

from_low : (s e : ℕ) (xs : List ℕ) → Rises s e xs → (j d : ℕ) → j < length xs → s ≤ get_or xs j d
from_low s e [] h j d lt = absurd (omega (arith, lt))
from_low s e (x ∷ xs) h zero d lt = h.0
from_low s e (x ∷ xs) h (suc j) d lt = let up : suc x ≤ get_or xs j d = from_low (suc x) e xs h.2 j d (omega (arith, lt)) in omega (arith, h.0, up)

no_fall : (s e : ℕ) (xs : List ℕ) → Rises s e xs → (i j d : ℕ) → i ≤ j → j < length xs → get_or xs i d ≤ get_or xs j d
no_fall s e [] h i j d le lt = absurd (omega (arith, lt))
no_fall s e (x ∷ xs) h zero zero d le lt = omega arith
no_fall s e (x ∷ xs) h zero (suc j) d le lt = let up : suc x ≤ get_or xs j d = from_low (suc x) e xs h.2 j d (omega (arith, lt)) in omega (arith, up)
no_fall s e (x ∷ xs) h (suc i) zero d le lt = absurd (omega (arith, le))
no_fall s e (x ∷ xs) h (suc i) (suc j) d le lt = no_fall (suc x) e xs h.2 i j d (omega (arith, le)) (omega (arith, lt))

pub none_falls : (n : ℕ) (xs : List ℕ) → AreRanks n xs → IsNonDecreasingBy (λ (k : ℕ). k) xs
none_falls n xs h i j d le lt = no_fall 1 (suc n) xs (ranks_rise n xs h) i j d le lt

-- those that pass a test are the first n
pub firsts : (xs : List ℕ) (r n : ℕ) → n ≤ length xs → AllWithin (λ k. nat_lt k r ≡ true) xs 0 n → AllWithin (λ k. nat_lt k r ≡ false) xs n (length xs) → take n xs ≡ filter (λ k. nat_lt k r) xs
firsts [] r zero le before behind = refl
firsts [] r (suc n) le before behind = absurd (omega (arith, le))
firsts (x ∷ xs) r zero le before behind =
    let rest : [] ≡ filter (λ k. nat_lt k r) xs = firsts xs r zero (omega arith) (λ k d a b. absurd (omega (arith, b))) (λ k d a b. behind (suc k) d (omega arith) (omega (arith, b))) in
    rest ∙ sym (cond-false (nat_lt x r) (x ∷ filter (λ k. nat_lt k r) xs) (filter (λ k. nat_lt k r) xs) (behind zero x (omega arith) (omega arith)))
firsts (x ∷ xs) r (suc n) le before behind =
    ap (λ (ks : List ℕ). x ∷ ks)
    (firsts xs r n (omega (arith, le)) (λ k d a b. before (suc k) d (omega arith) (omega (arith, b))) (λ k d a b. behind (suc k) d (omega (arith, a)) (omega (arith, b))))
    ∙ sym (cond-true (nat_lt x r) (x ∷ filter (λ k. nat_lt k r) xs) (filter (λ k. nat_lt k r) xs) (before zero x (omega arith) (omega arith)))

-- so what is assumed for it are the base, the first kept literals, and its own
pub assumed_first : (base soft : List Lit) (kept : List ℕ) (r n : ℕ) (literals own : List Lit) → literals ≡ map (lit_at soft) kept → take n kept ≡ filter (λ k. nat_lt k r) kept → own ≡ lit_at soft r ∷ []
    → base ++ take n literals ++ own ≡ assumed_at base soft kept r
assumed_first base soft kept r n literals own is first one =
    let above : take n literals ≡ map (lit_at soft) (filter (λ k. nat_lt k r) kept) = ap (take n) is ∙ take-map (lit_at soft) n kept ∙ ap (map (lit_at soft)) first in
    λ i. (base ++ above i) ++ one i
