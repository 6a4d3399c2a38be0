-- Steps of loops over numbers
use Rattle.std.proofs.Common.{◌≡◌, ℕ, ◌+◌, List, ap, add-one}
use Rattle.svr_cover_report.specs.declared.names.PointNames.{PointNames}
use Rattle.svr_cover_report.specs.declared.names.CrossNames.{CrossNames}
use Rattle.svr_cover_report.specs.Report.{count_at, hit, hits, name_at, with_bin, with_bins, with_tuple, with_tuples}

pub one_hit : (counts : List ℕ) (first n : ℕ) → hits counts first (n + 1) ≡ hits counts first n + hit (count_at counts first n)
one_hit counts first n = ap (hits counts first) (add-one n)

pub one_bin : (text : List ℕ) (names : List (List ℕ)) (first : ℕ) (counts : List ℕ) (n : ℕ)
    → with_bins text names first counts (n + 1) ≡ with_bin (with_bins text names first counts n) (name_at names n) (count_at counts first n)
one_bin text names first counts n = ap (with_bins text names first counts) (add-one n)

pub one_tuple : (text : List ℕ) (points : List PointNames) (x : CrossNames) (counts : List ℕ) (n : ℕ)
    → with_tuples text points x counts (n + 1) ≡ with_tuple (with_tuples text points x counts n) points x counts n
one_tuple text points x counts n = ap (with_tuples text points x counts) (add-one n)
