-- A turn of a loop over rows, and the loop as a whole, by the number of its names.
use Rattle.std.proofs.Common.{◌≡◌, ◌==◌, ◌/◌, ℕ, Bool, true, false, sym, ◌∙◌, ap, List, ◌++◌}
use Rattle.std.specs.Prelude.{if◌then◌else◌, slice_index}
use Rattle.svr_typed.specs.ItemTerm.{ItemTerms, foreach}
use Rattle.svr_frame.specs.Occurrences.{Place, within, each_below, all_occur}
use Rattle.svr_mention.specs.declared.setting.Setting.{Setting}
use Rattle.svr_mention.specs.Mentioned.{shape_in}
use Rattle.svr_expand.specs.Expanded.{FindingTerm, found_in_all, found_in, all_found_in}
use Rattle.svr_expand.specs.Loops.{found_within, found_in_row, found_in_loop}

module _ (x : Setting) (at : Place) (p m names : ℕ) (body : ItemTerms) where
  abbrev by_names : Bool → List FindingTerm
  by_names b = found_in_all x (if b then each_below m (λ j. all_occur (shape_in x) (within p j at) body) else all_occur (shape_in x) at body)

  -- with one name the row is the body
  pub one_name : (old new : List FindingTerm) → (names == 2) ≡ false → new ≡ old ++ all_found_in x at body → new ≡ old ++ found_in_row x at p m names body
  one_name old new h k = k ∙ ap (λ b. old ++ by_names b) (sym h)

  -- with two it is the body for each index of the second
  pub two_names : (old new : List FindingTerm) → (names == 2) ≡ true → new ≡ old ++ found_within x at p m body → new ≡ old ++ found_in_row x at p m names body
  two_names old new h k = k ∙ ap (λ b. old ++ by_names b) (sym h)

  -- a loop over all rows of the array
  pub all_rows : (rows : ℕ) (old new : List FindingTerm) → rows ≡ slice_index x.sizes.now p / m → new ≡ old ++ found_in_loop x at p m names rows body → new ≡ old ++ found_in x at (foreach p m names body)
  all_rows rows old new h k = k ∙ ap (λ n. old ++ found_in_loop x at p m names n body) h
