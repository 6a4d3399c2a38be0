-- Lists of slices.
use Rattle.std.proofs.Common.{◌≡◌, ◌<◌, ℕ, zero, suc, ◌+◌, List, [], ◌∷◌, ◌++◌, length, take, get_or, sym, ap, ◌∙◌, arith, add-one, append-nil, append_assoc}
use Rattle.std.specs.List.{concat}
use denote.Ref.{Bor}
use Rattle.svr_status.specs.Lines.{seen}

-- one more part
pub concat_more : (parts : List (Bor (List ℕ))) (i : ℕ) (d : Bor (List ℕ)) → i < length parts
    → concat (seen (take (i + 1) parts)) ≡ concat (seen (take i parts)) ++ (get_or parts i d).now
concat_more parts i d less = rw (add-one i) (more parts i d less)
  where
    more : (parts : List (Bor (List ℕ))) (i : ℕ) (d : Bor (List ℕ)) → i < length parts
        → concat (seen (take (suc i) parts)) ≡ concat (seen (take i parts)) ++ (get_or parts i d).now
    more [] i d less = absurd (omega arith)
    more (p ∷ ps) zero d less = append-nil p.now
    more (p ∷ ps) (suc i) d less =
        let rest : concat (seen (take (suc i) ps)) ≡ concat (seen (take i ps)) ++ (get_or ps i d).now = more ps i d (omega arith) in
        ap (λ x. p.now ++ x) rest ∙ sym (append_assoc p.now (concat (seen (take i ps))) (get_or ps i d).now)

pub concat_step : (parts : List (Bor (List ℕ))) (i : ℕ) (d : Bor (List ℕ)) (old new : List ℕ) → i < length parts
    → old ≡ concat (seen (take i parts)) → new ≡ old ++ (get_or parts i d).now → new ≡ concat (seen (take (i + 1) parts))
concat_step parts i d old new less before grown = grown ∙ ap (λ x. x ++ (get_or parts i d).now) before ∙ sym (concat_more parts i d less)
