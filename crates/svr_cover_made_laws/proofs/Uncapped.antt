-- Counts of bins, which are counted up to one more than there may be: of bins that are not refused they are the bins
use Rattle.std.proofs.Common.{◌≡◌, ℕ, zero, suc, ◌+◌, ◌≤◌, min, Bool, true, false, nat_le, List, [], ◌∷◌, ◌++◌, length, length-append, sym, ◌∙◌, arith, if◌then◌else◌}
use Rattle.std.proofs.lemmas.Bool.{leb-true}
use Rattle.svr_typed.specs.declared.class.NumType.{NumType}
use Rattle.svr_refusal.specs.declared.refusal.Refusal.TheVariants as refusal
use Rattle.svr_cover_text.specs.declared.text.RangeText.{RangeText}
use Rattle.svr_cover_text.specs.declared.text.BinsText.{BinsText}
use Rattle.svr_cover_union.specs.declared.ranges.Range.{Range}
use Rattle.svr_cover_checked.specs.declared.limits.TheConstants.{MOST_BINS}
use Rattle.svr_cover_checked.specs.Numbers.{Spelling, unless, low_of, size_of, sizes, bins_count, ranges_refusals}
use Rattle.svr_cover_checked.specs.Places.{Finder, second}
use Rattle.svr_cover_checked.specs.Refusals.{count_behind, all_count, one_refusals, bins_refusals}
use Rattle.svr_cover_made.specs.Stored.{with_range, with_ranges, with_singles, with_each, with_bins, with_all_bins}
use Rattle.svr_cover_made_laws.proofs.Empty.{left_empty, right_empty, unless_fine}

module _ (text : Spelling) (kind : NumType) where
  abbrev pub sum_sizes : List RangeText → ℕ
  sum_sizes [] = 0
  sum_sizes (r ∷ rs) = size_of text r + sum_sizes rs

  singles-length : (bins : List (List Range)) (low n : ℕ) → length (with_singles kind bins low n) ≡ length bins + n
  singles-length bins low zero = omega arith
  singles-length bins low (suc n) =
      length-append (with_singles kind bins low n) (with_range kind [] (low + n) (low + n) ∷ [])
      ∙ (let h : length (with_singles kind bins low n) ≡ length bins + n = singles-length bins low n in let r : length (with_singles kind bins low n) + 1 ≡ length bins + suc n = omega (arith, h) in r)

  each-length : (bins : List (List Range)) (rs : List RangeText) → length (with_each text kind bins rs) ≡ length bins + sum_sizes rs
  each-length bins [] = omega arith
  each-length bins (r ∷ rs) =
      let h : length (with_singles kind bins (low_of text r) (size_of text r)) ≡ length bins + size_of text r = singles-length bins (low_of text r) (size_of text r) in
      each-length (with_singles kind bins (low_of text r) (size_of text r)) rs
      ∙ (let e : length (with_singles kind bins (low_of text r) (size_of text r)) + sum_sizes rs ≡ length bins + (size_of text r + sum_sizes rs) = omega (arith, h) in e)

  sizes-is : (sum : ℕ) (rs : List RangeText) → sum ≤ 1025 → sizes text sum rs ≡ min (sum + sum_sizes rs) 1025
  sizes-is sum [] l = omega (arith, l)
  sizes-is sum (r ∷ rs) l =
      sizes-is (min (sum + size_of text r) 1025) rs (omega arith) ∙ (let e : min (min (sum + size_of text r) 1025 + sum_sizes rs) 1025 ≡ min (sum + (size_of text r + sum_sizes rs)) 1025 = omega arith in e)

  -- how many bins one `bins` is, when none are left out
  abbrev pub many_of : BinsText → ℕ
  many_of b = if b.each then sum_sizes b.ranges else 1

  count-is : (b : BinsText) → bins_count text b ≡ min (many_of b) 1025
  count-is b = go b.each
    where
      go : (t : Bool) → (if t then sizes text 0 b.ranges else 1) ≡ min (if t then sum_sizes b.ranges else 1) 1025
      go true = sizes-is 0 b.ranges (omega arith) ∙ (let e : min (0 + sum_sizes b.ranges) 1025 ≡ min (sum_sizes b.ranges) 1025 = omega arith in e)
      go false = omega arith

  bins-length : (bins : List (List Range)) (b : BinsText) → length (with_bins text kind bins b) ≡ length bins + many_of b
  bins-length bins b = go b.each
    where
      go : (t : Bool) → length (if t then with_each text kind bins b.ranges else bins ++ with_ranges text kind [] b.ranges ∷ []) ≡ length bins + (if t then sum_sizes b.ranges else 1)
      go true = each-length bins b.ranges
      go false = length-append bins (with_ranges text kind [] b.ranges ∷ [])

  pub count_is : (find : Finder) (i count : ℕ) (bins : List (List Range)) (bs : List BinsText) → length bins ≡ count → bins_refusals text find i count bs ≡ [] → all_count text count bs ≡ length (with_all_bins text kind bins bs)
  count_is find i count bins [] l e = sym l
  count_is find i count bins (b ∷ bs) l e =
      let one : one_refusals text find i count b ≡ [] = left_empty (one_refusals text find i count b) (bins_refusals text find (suc i) (count_behind text count b) bs) e in
      let rest : bins_refusals text find (suc i) (count_behind text count b) bs ≡ [] = right_empty (one_refusals text find i count b) (bins_refusals text find (suc i) (count_behind text count b) bs) e in
      let some : unless (nat_le (count + bins_count text b) MOST_BINS) refusal.TooManyBins b.name ++ ranges_refusals text b.each b.ranges 0 b.ranges ≡ [] =
      right_empty (second text find i b.name) (unless (nat_le (count + bins_count text b) MOST_BINS) refusal.TooManyBins b.name ++ ranges_refusals text b.each b.ranges 0 b.ranges) one
      in
      let fit : nat_le (count + bins_count text b) MOST_BINS ≡ true =
      unless_fine (nat_le (count + bins_count text b) MOST_BINS) refusal.TooManyBins b.name (left_empty (unless (nat_le (count + bins_count text b) MOST_BINS) refusal.TooManyBins b.name) (ranges_refusals text b.each b.ranges 0 b.ranges) some)
      in
      let few : count + bins_count text b ≤ 1024 = leb-true (count + bins_count text b) 1024 fit in
      let is : bins_count text b ≡ min (many_of b) 1025 = count-is b in
      let m : length (with_bins text kind bins b) ≡ length bins + many_of b = bins-length bins b in
      let s : length (with_bins text kind bins b) ≡ count_behind text count b = (let q : length (with_bins text kind bins b) ≡ min (count + bins_count text b) 1025 = omega (arith, few, is, m, l) in q) in
      count_is find (suc i) (count_behind text count b) (with_bins text kind bins b) bs s rest
