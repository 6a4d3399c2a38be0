-- The number that digits write, cut at the greatest size
use Rattle.std.proofs.Common.{◌≡◌, ℕ, ◌+◌, ◌-◌, ◌*◌, ◌<◌, List, length, take, get_or, min, sym, ap, ◌∙◌, arith}
use Rattle.std.proofs.lemmas.List.Sums.{fold_more}
use Rattle.svr_lrat_text.specs.declared.limits.TheConstants.{MOST_SIZE}
use Rattle.svr_lrat_text.specs.Words.{with_digit, value_of}

cut-twice : (most n x : ℕ) → min (min n most * 10 + x) most ≡ min (n * 10 + x) most
cut-twice most n x = omega arith

pub cut-more : (digits : List ℕ) (i d size : ℕ) → i < length digits → size ≡ min (value_of (take i digits)) MOST_SIZE
    → min (size * 10 + (get_or digits i d - 48)) MOST_SIZE ≡ min (value_of (take (i + 1) digits)) MOST_SIZE
cut-more digits i d size less h =
    ap (λ n. min (n * 10 + (get_or digits i d - 48)) MOST_SIZE) h
    ∙ cut-twice MOST_SIZE (value_of (take i digits)) (get_or digits i d - 48)
    ∙ ap (λ n. min n MOST_SIZE) (sym (fold_more with_digit 0 digits i d less))
