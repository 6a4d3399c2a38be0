-- All soft items are kept, by their ranks.
use Rattle.std.proofs.Common.{◌≡◌, ℕ, suc, ◌+◌, refl, sym, ap, ◌∙◌, List, [], ◌∷◌, ◌++◌, map, length, arith}
use Rattle.std.specs.List.{range_with_len}
use Rattle.svr_values.proofs.Lists.{mapped_more}
use Rattle.svr_frame.specs.Occurrences.{Occurrence}
use Rattle.svr_frame.specs.Satisfaction.{kept_ranks, dropped_ranks}
use Rattle.svr_call.specs.Call.{all_kept}

pub all_ranks_from : (k : ℕ) (os : List Occurrence) → map (λ i. i + 1) (range_with_len k (length os)) ≡ kept_ranks (suc k) (all_kept os)
all_ranks_from k [] = refl
all_ranks_from k (o ∷ os) =
    ap (λ (n : ℕ). n ∷ map (λ i. i + 1) (range_with_len (k + 1) (length os))) (let e : k + 1 ≡ suc k = omega arith in e)
    ∙ ap (λ (n : ℕ). suc k ∷ map (λ i. i + 1) (range_with_len n (length os))) (let e : k + 1 ≡ suc k = omega arith in e)
    ∙ ap (λ (rs : List ℕ). suc k ∷ rs) (all_ranks_from (suc k) os)

pub none_dropped : (k : ℕ) (os : List Occurrence) → dropped_ranks k (all_kept os) ≡ []
none_dropped k [] = refl
none_dropped k (o ∷ os) = none_dropped (suc k) os

-- one rank more
pub rank_more : (n : ℕ) (old new : List ℕ) → new ≡ old ++ (n + 1) ∷ [] → old ≡ map (λ i. i + 1) (range_with_len 0 n) → new ≡ map (λ i. i + 1) (range_with_len 0 (n + 1))
rank_more n old new is so_far = is ∙ ap (λ (rs : List ℕ). rs ++ (n + 1) ∷ []) so_far ∙ sym (mapped_more (λ i. i + 1) n)
