-- How many bins the points of a group have, and which of these numbers a name of a point stands for
use Rattle.std.proofs.Common.{◌≡◌, ℕ, zero, suc, ◌+◌, Bool, true, false, nat_lt, List, [], ◌∷◌, ◌++◌, length, map, Option, None, Some, append_assoc, length-append, refl, sym, ap, ◌∙◌, arith, if◌then◌else◌}
use Rattle.std.specs.Prelude.{slice_index}
use Rattle.std.proofs.lemmas.Option.{none-some, same_Some}
use Rattle.svr_cover_text.specs.declared.text.BinsText.{BinsText}
use Rattle.svr_cover_text.specs.declared.text.PartText.{PartText}
use Rattle.svr_cover_text.specs.declared.text.PartText.TheVariants as t
use Rattle.svr_cover_checked.specs.Places.{finder}
use Rattle.svr_cover_checked.specs.Design.{prop_from}
use Rattle.svr_cover_checked.specs.Refusals.{Group, bins_name, all_bins_refusals, all_count, part_count, count_at, if_before, point_bins, head_refusals, names_refusals, part_refusals, parts_refusals, total_behind}
use Rattle.svr_cover_made.specs.Stored.{with_all_bins}
use Rattle.svr_cover_made.specs.Plan.{or_zero, kind_of, ranks, rank_in, rank_of}
use Rattle.svr_cover_made_laws.proofs.Empty.{left_empty, right_empty}
use Rattle.svr_cover_made_laws.proofs.Uncapped.{count_is}

-- the number behind some others
pub at-end : (pre : List ℕ) (l : ℕ) (rest : List ℕ) → slice_index (pre ++ l ∷ rest) (length pre) ≡ l
at-end [] l rest = refl
at-end (x ∷ pre) l rest = at-end pre l rest

module _ (g : Group) where
  -- how many bins a point has
  abbrev pub size_in : ℕ → List BinsText → ℕ
  size_in prop bins = length (with_all_bins g.text (kind_of g.props (or_zero (prop_from 0 g.props (g.text prop)))) [] bins)

  abbrev pub size_of_part : PartText → Option ℕ
  size_of_part (t.Point name formal prop bins) = Some (size_in prop bins)
  size_of_part (t.Cross name points) = None

  -- those of the points, in their order
  abbrev pub point_sizes : List PartText → List ℕ
  point_sizes [] = []
  point_sizes (t.Point name formal prop bins ∷ xs) = size_in prop bins ∷ point_sizes xs
  point_sizes (t.Cross name points ∷ xs) = point_sizes xs

  pub counts_are : (i total : ℕ) (xs : List PartText) → parts_refusals g i total xs ≡ [] → map (part_count g.text) xs ≡ map size_of_part xs
  counts_are i total [] e = refl
  counts_are i total (t.Point name formal prop bins ∷ xs) e =
      let one : head_refusals g i name ++ (names_refusals g formal prop ++ all_bins_refusals g.text bins) ≡ [] =
      left_empty (part_refusals g i total (t.Point name formal prop bins)) (parts_refusals g (suc i) total xs) e
      in
      let two : names_refusals g formal prop ++ all_bins_refusals g.text bins ≡ [] = right_empty (head_refusals g i name) (names_refusals g formal prop ++ all_bins_refusals g.text bins) one in
      let three : all_bins_refusals g.text bins ≡ [] = right_empty (names_refusals g formal prop) (all_bins_refusals g.text bins) two in
      let is : all_count g.text 0 bins ≡ size_in prop bins =
      count_is g.text (kind_of g.props (or_zero (prop_from 0 g.props (g.text prop)))) (finder g.text (map bins_name bins)) 0 0 [] bins refl three
      in
      ap (λ z. Some z ∷ map (part_count g.text) xs) is
      ∙ ap (λ z. Some (size_in prop bins) ∷ z) (counts_are (suc i) total xs (right_empty (part_refusals g i total (t.Point name formal prop bins)) (parts_refusals g (suc i) total xs) e))
  counts_are i total (t.Cross name points ∷ xs) e =
      ap (λ z. None ∷ z)
      (counts_are (suc i) (total_behind g i total (t.Cross name points)) xs
      (right_empty (part_refusals g i total (t.Cross name points)) (parts_refusals g (suc i) (total_behind g i total (t.Cross name points)) xs) e))

  -- the number of a part stands at its rank
  rank-is : (xs : List PartText) (n k b : ℕ) (pre : List ℕ) → length pre ≡ n → count_at (map size_of_part xs) k ≡ Some b → slice_index (pre ++ point_sizes xs) (slice_index (ranks n xs) k) ≡ b
  rank-is [] n k b pre l e = absurd (none-some b e)
  rank-is (t.Point name formal prop bins ∷ xs) n zero b pre l e =
      ap (slice_index (pre ++ size_in prop bins ∷ point_sizes xs)) (sym l) ∙ at-end pre (size_in prop bins) (point_sizes xs) ∙ same_Some (size_in prop bins) b e
  rank-is (t.Point name formal prop bins ∷ xs) n (suc k) b pre l e =
      let m : length (pre ++ size_in prop bins ∷ []) ≡ suc n = length-append pre (size_in prop bins ∷ []) ∙ (let q : length pre + 1 ≡ suc n = omega (arith, l) in q) in
      ap (λ z. slice_index z (slice_index (ranks (suc n) xs) k)) (sym (append_assoc pre (size_in prop bins ∷ []) (point_sizes xs))) ∙ rank-is xs (suc n) k b (pre ++ size_in prop bins ∷ []) m e
  rank-is (t.Cross name points ∷ xs) n zero b pre l e = absurd (none-some b e)
  rank-is (t.Cross name points ∷ xs) n (suc k) b pre l e = rank-is xs n k b pre l e

  -- a name that stands for an earlier point
  pub found_is : (parts : List PartText) → g.counts ≡ map size_of_part parts → (i name b : ℕ) → point_bins g i name ≡ Some b → slice_index (point_sizes parts) (rank_of g (ranks 0 parts) name) ≡ b
  found_is parts same i name b e = go (g.find (g.text name)) e
    where
      within : (k : ℕ) (before : Bool) → (if before then count_at g.counts k else None) ≡ Some b → slice_index (point_sizes parts) (slice_index (ranks 0 parts) k) ≡ b
      within k true h = rank-is parts 0 k b [] refl (ap (λ z. count_at z k) (sym same) ∙ h)
      within k false h = absurd (none-some b h)

      go : (o : Option ℕ) → if_before g.counts i o ≡ Some b → slice_index (point_sizes parts) (rank_in (ranks 0 parts) o) ≡ b
      go None h = absurd (none-some b h)
      go (Some k) h = within k (nat_lt k i) h
