-- Parts of a text.
use Rattle.std.proofs.Common.{◌≡◌, ◌≤◌, ℕ, ◌-◌, min, List, [], length, take, drop, slice_range, sym, ap, ◌∙◌, arith, length-drop, ⊎_elim}
use Rattle.std.proofs.lemmas.Bool.{cases_lt}
use Rattle.std.proofs.lemmas.List.{take_all}

-- nothing stands behind the end of a text
pub cut_short : (text : List ℕ) (start stop : ℕ) → take (min stop (length text) - start) (drop start text) ≡ slice_range text start stop
cut_short text start stop =
    ⊎_elim (λ short. ap (λ n. take (n - start) (drop start text)) (let e : min stop (length text) ≡ stop = omega arith in e))
    (λ long.
    let rest = length-drop start text in
    take_all (min stop (length text) - start) (drop start text) (omega arith) ∙ sym (take_all (stop - start) (drop start text) (omega arith)))
    (cases_lt stop (length text))

pub cut_none : (text : List ℕ) (start stop : ℕ) → min stop (length text) ≤ start → slice_range text start stop ≡ []
cut_none text start stop h = sym (cut_short text start stop) ∙ ap (λ n. take n (drop start text)) (let e : min stop (length text) - start ≡ 0 = omega arith in e)
